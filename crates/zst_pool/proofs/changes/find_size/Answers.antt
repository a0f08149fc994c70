use Rattle.std.specs.Prelude.{Option}
use Rattle.std.proofs.Common.{◌<◌, length, subst, arith}
use Rattle.zst_block.specs.Blocks.{Has}
use Rattle.zst_dnode.specs.declared.dnode.Dnode.{Dnode}
use Rattle.zst_model.specs.pools.Step.{written}
use Rattle.zst_objset.specs.Dnodes.{DnodeAt}
use Rattle.zst_pool.proofs.HeadChanges.{written_absent, written_long}
use Rattle.zst_pool.proofs.LookupLemmas.{none_found, some_found}
use Rattle.zst_pool.proofs.SetCalls.{disk_is}
use Rattle.zst_pool.proofs.PlanLemmas.{no_plan-block}
use Rattle.zst_pool.proofs.changes.find_size.Goals as goal

pub returns-in-Ok-None-clause-found : goal.returns-in-Ok-None-clause-found
returns-in-Ok-None-clause-found g c = λ pool index head told holds.
    let has = Has (g.D.Disk.state c.attr.new.io.disk.now).seen c.attr.new.io.space in
    let k = c.args.object in
    let found = subst (λ (f : Option Dnode). DnodeAt has (head.state k) (head.number_date k) (head.index_date k) f) c.in-Ok-None.field-0-is (c.in-Ok-None.ensures.found head told holds) in
    written_absent pool k index c.args.bytes.now head (none_found has (head.state k) (head.number_date k) (head.index_date k) found)

pub returns-in-Ok-Some-clause-found : goal.returns-in-Ok-Some-clause-found
returns-in-Ok-Some-clause-found g c = λ pool index head told holds.
    let has = Has (g.D.Disk.state c.attr.new.io.disk.now).seen c.attr.new.io.space in
    let k = c.args.object in
    let dnode = c.in-Ok-Some.dnode in
    let found = subst (λ (f : Option Dnode). DnodeAt has (head.state k) (head.number_date k) (head.index_date k) f) c.in-Ok-Some.field-0-is (c.in-Ok-Some.ensures.found head told holds) in
    let there = some_found has (head.state k) (head.number_date k) (head.index_date k) dnode found in
    let long : there.0.attr.block_size < length c.args.bytes.now = omega (arith, there.2) in
    written_long pool k index c.args.bytes.now head there.0 there.1 long

pub returns-in-Err-clause-found : goal.returns-in-Err-clause-found
returns-in-Err-clause-found g c = λ pool index head told holds.
    disk_is (written pool c.args.object index c.args.bytes.now head) c.in-Err.fault (c.in-Err.ensures.found head told holds)

pub returns-in-Err-clause-limits : goal.returns-in-Err-clause-limits
returns-in-Err-clause-limits g c = λ fault is. no_plan-block c.in-Err.fault fault c.in-Err.ensures.known is
