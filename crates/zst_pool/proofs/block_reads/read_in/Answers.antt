use Rattle.std.specs.Prelude.{Option, Err, Result}
use Rattle.std.proofs.Common.{rules, ◌≡◌, ℕ, List, length, sym, ap, ◌∙◌, subst, inl}
use Rattle.std.proofs.lemmas.List.{with_items_is, places}
use Rattle.std.proofs.lemmas.Result.{err_from_is_err_and}
use Rattle.zst_space.specs.FreeSectors.{FreeSectors}
use Rattle.zst_block.specs.Blocks.{Has}
use Rattle.zst_block.specs.IoCalls.{Looks}
use Rattle.zst_block.proofs.IoCallLemmas.{Looks-then}
use Rattle.zst_dnode.specs.declared.dnode.Dnode.{Dnode}
use Rattle.zst_objset.specs.Changes.{block_told, found_at}
use Rattle.zst_objset.specs.Damage.{IsDamagedBlock}
use Rattle.zst_objset.specs.Sets.{SetHolds}
use Rattle.zst_objset.proofs.LeafLaws.{look_on}
use Rattle.zst_tree.specs.Damage.{IsSeen}
use Rattle.zst_pool.specs.Damage.{IsOf, look_damage, read_damage}
use Rattle.zst_pool.specs.Queries.{TellsAnswer, stop_of}
use Rattle.zst_pool.proofs.CheckLemmas.{err_has}
use Rattle.zst_pool.proofs.PlanLemmas.{no_plan-block}
use Rattle.zst_pool.proofs.QueryLemmas.{block_refused, disk_refused, index_past, long_enough, set_open, set_told, stop_set}
use Rattle.zst_model.specs.declared.pools.reply.Reply.{Reply}
use Rattle.zst_model.specs.declared.states.cell.Cell.{Cell}
use Rattle.zst_model.specs.pools.Step.{answered}
use Rattle.zst_model.proofs.Results.{err_is}
use Rattle.zst_objset.specs.Answers.{ReadsCell}
use Rattle.zst_pool.specs.Faults.{of_set}
use Rattle.zst_pool.specs.declared.fault.PoolFault.{PoolFault}
use Rattle.zst_pool.specs.declared.fault.PoolFault.TheVariants as faults
use Rattle.zst_pool.proofs.block_reads.read_in.Goals as goal

pub returns-in_err-dnode-clause-told : goal.returns-in_err-dnode-clause-told
returns-in_err-dnode-clause-told g c = λ pool state honest holds.
    let p = err_from_is_err_and c.from_residual.result c.from_residual.ensures.1 in
    rw (p.1, p.2) (disk_refused (block_told pool (found_at c.args.object c.args.index state)) c.in_err-dnode.field-0.0 (c.in_err-dnode.ensures.found state honest holds))

pub returns-in_err-dnode-clause-damaged : goal.returns-in_err-dnode-clause-damaged
returns-in_err-dnode-clause-damaged g c = λ honest.
    let p = err_from_is_err_and c.from_residual.result c.from_residual.ensures.1 in
    rw (p.1, p.2) (set_told (look_damage (g.D.Disk.state c.args.io.now.disk.now) c.args.set.now) (read_damage (g.D.Disk.state c.args.io.now.disk.now) c.args.set.now) (λ sector stated found damaged. (0, inl (inl damaged))) (Option Dnode) c.in_err-dnode.field-0.0 (c.in_err-dnode.ensures.damaged honest))

pub returns-in_err-cell-clause-told : goal.returns-in_err-cell-clause-told
returns-in_err-cell-clause-told g c = λ pool state honest holds.
    let p = err_from_is_err_and c.from_residual-in_err-cell.result c.from_residual-in_err-cell.ensures.1 in
    rw (p.1, p.2) (block_refused pool (found_at c.args.object c.args.index state) c.in_err-cell.field-0.0
    (c.in_err-cell.ensures.read state honest (look_on (λ (seen : List ℕ) (space : FreeSectors). SetHolds (Has seen space) c.args.set.now state) c.in_ok-dnode.ensures.looks.looks holds)
    (long_enough _ state c.args.object c.in-Some.dnode c.in_ok-dnode.field-0 c.in-Some.is (c.in_ok-dnode.ensures.found state (c.in_err-cell.ensures.looks.looks.reads.honest honest) holds) (length c.as_mut_slice.result.now) (search rules))))

pub returns-in_err-cell-clause-damaged : goal.returns-in_err-cell-clause-damaged
returns-in_err-cell-clause-damaged g c = λ honest.
    let p = err_from_is_err_and c.from_residual-in_err-cell.result c.from_residual-in_err-cell.ensures.1 in
    let disk = g.D.Disk.state c.args.io.now.disk.now in
    let reads = c.in_ok-dnode.ensures.looks.looks.reads in
    let count = length c.as_mut_slice.result.now in
    rw (p.1, p.2) (set_told (IsDamagedBlock (IsSeen disk.seen) disk.size count c.args.set.now) (read_damage disk c.args.set.now) (λ sector stated found damaged. (count, damaged)) Cell c.in_err-cell.field-0.0
    (rw (reads.seen, reads.size) at (c.in_err-cell.ensures.damaged honest)))

pub returns-in_err-cell-clause-looks : goal.returns-in_err-cell-clause-looks
returns-in_err-cell-clause-looks g c =
    let p = err_from_is_err_and c.from_residual-in_err-cell.result c.from_residual-in_err-cell.ensures.1 in
    rw (p.1, p.2) (subst (Looks _ _) (stop_set Reply Cell c.in_err-cell.field-0.0) (Looks-then c.in_ok-dnode.ensures.looks.looks c.in_err-cell.ensures.looks.looks))

pub returns-in_err-cell-clause-limits : goal.returns-in_err-cell-clause-limits
returns-in_err-cell-clause-limits g c = λ fault is.
    let p = err_from_is_err_and c.from_residual-in_err-cell.result c.from_residual-in_err-cell.ensures.1 in
    let of = p.1 ∙ ap (λ (f : PoolFault). Err f) p.2 in
    let same : of_set c.in_err-cell.field-0.0 ≡ faults.Plan fault = cc in
    index_past c.args.index c.in_err-cell.field-0.0 fault c.in_err-cell.ensures.limits same

pub returns-clause-told : goal.returns-clause-told
returns-clause-told g c = λ pool state honest holds.
    let definition = found_at c.args.object c.args.index state in
    let read = c.in_ok-cell.ensures.read state honest (look_on (λ (seen : List ℕ) (space : FreeSectors). SetHolds (Has seen space) c.args.set.now state) c.in_ok-dnode.ensures.looks.looks holds)
    (long_enough _ state c.args.object c.in-Some.dnode c.in_ok-dnode.field-0 c.in-Some.is (c.in_ok-dnode.ensures.found state (c.in_ok-cell.ensures.looks.looks.reads.honest honest) holds) (length c.as_mut_slice.result.now) (search rules)) in
    let same = c.as_slice.ensures.value ∙ with_items_is c.in_ok-bytes.bytes c.read_block.new.into (search (rules, places)) in
    let told = c.in_ok-told.ensures definition (subst (λ (b : List ℕ). ReadsCell definition b c.in_ok-cell.cell) (sym same) read) in
    ap (block_told pool) told.1 ∙ ap (answered pool) (sym told.2)

pub returns-in_err-dnode-clause-looks : goal.returns-in_err-dnode-clause-looks
returns-in_err-dnode-clause-looks g c =
    let p = err_from_is_err_and c.from_residual.result c.from_residual.ensures.1 in
    rw (p.1, p.2) (subst (Looks _ _) (stop_set Reply (Option Dnode) c.in_err-dnode.field-0.0) c.in_err-dnode.ensures.looks.looks)

pub returns-in_err-dnode-clause-open_still : goal.returns-in_err-dnode-clause-open_still
returns-in_err-dnode-clause-open_still g c = λ is.
    let answered = err_is c.from_residual.result (of_set c.in_err-dnode.field-0.0) c.from_residual.ensures.1 in
    let same : of_set c.in_err-dnode.field-0.0 ≡ faults.Failed = cc (answered, is) in
    set_open c.in_err-dnode.field-0.0 same

pub returns-in_err-dnode-clause-limits : goal.returns-in_err-dnode-clause-limits
returns-in_err-dnode-clause-limits g c = λ fault is.
    let answered = err_is c.from_residual.result (of_set c.in_err-dnode.field-0.0) c.from_residual.ensures.1 in
    let same : of_set c.in_err-dnode.field-0.0 ≡ faults.Plan fault = cc (answered, is) in
    absurd (no_plan-block c.in_err-dnode.field-0.0 fault c.in_err-dnode.ensures.known same)

pub returns-in_default-clause-looks : goal.returns-in_default-clause-looks
returns-in_default-clause-looks g c = c.in_ok-dnode.ensures.looks.looks

pub returns-in_err-bytes-clause-told : goal.returns-in_err-bytes-clause-told
returns-in_err-bytes-clause-told g c = λ pool state honest holds.
    let fell = c.from_residual-in_err-bytes in
    subst (TellsAnswer pool (block_told pool (found_at c.args.object c.args.index state))) (sym (err_is fell.result faults.OutOfMemory fell.ensures.1)) tt

pub returns-in_err-bytes-clause-looks : goal.returns-in_err-bytes-clause-looks
returns-in_err-bytes-clause-looks g c =
    let fell = c.from_residual-in_err-bytes in
    let stop = ap (λ (r : Result Reply PoolFault). stop_of r) (sym (err_is fell.result faults.OutOfMemory fell.ensures.1)) in
    subst (Looks _ _) stop c.in_ok-dnode.ensures.looks.looks

pub returns-in_err-bytes-clause-damaged : goal.returns-in_err-bytes-clause-damaged
returns-in_err-bytes-clause-damaged g c = λ honest.
    let fell = c.from_residual-in_err-bytes in
    err_has (IsOf (read_damage (g.D.Disk.state c.args.io.now.disk.now) c.args.set.now)) fell.result faults.OutOfMemory fell.ensures.1 (λ sector stated found same. absurd (cc (same)))

pub returns-in_err-cell-clause-open_still : goal.returns-in_err-cell-clause-open_still
returns-in_err-cell-clause-open_still g c = λ is.
    let fell = c.from_residual-in_err-cell in
    let answered = err_is fell.result (of_set c.in_err-cell.field-0.0) fell.ensures.1 in
    let same : of_set c.in_err-cell.field-0.0 ≡ faults.Failed = cc (answered, is) in
    set_open c.in_err-cell.field-0.0 same

pub returns-in_err-told-clause-told : goal.returns-in_err-told-clause-told
returns-in_err-told-clause-told g c = λ pool state honest holds.
    let fell = c.from_residual-in_err-told in
    subst (TellsAnswer pool (block_told pool (found_at c.args.object c.args.index state))) (sym (err_is fell.result faults.OutOfMemory fell.ensures.1)) tt

pub returns-in_err-told-clause-looks : goal.returns-in_err-told-clause-looks
returns-in_err-told-clause-looks g c =
    let fell = c.from_residual-in_err-told in
    let stop = ap (λ (r : Result Reply PoolFault). stop_of r) (sym (err_is fell.result faults.OutOfMemory fell.ensures.1)) in
    subst (Looks _ _) stop (Looks-then c.in_ok-dnode.ensures.looks.looks c.in_ok-cell.ensures.looks.looks)

pub returns-in_err-told-clause-damaged : goal.returns-in_err-told-clause-damaged
returns-in_err-told-clause-damaged g c = λ honest.
    let fell = c.from_residual-in_err-told in
    err_has (IsOf (read_damage (g.D.Disk.state c.args.io.now.disk.now) c.args.set.now)) fell.result faults.OutOfMemory fell.ensures.1 (λ sector stated found same. absurd (cc (same)))

pub returns-clause-looks : goal.returns-clause-looks
returns-clause-looks g c = Looks-then c.in_ok-dnode.ensures.looks.looks c.in_ok-cell.ensures.looks.looks
