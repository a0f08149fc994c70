use Rattle.std.proofs.Common.{ℕ, List, [], length, arith, subst, sym}
use Rattle.zst_space.specs.FreeSectors.{FreeSectors}
use Rattle.zst_block.specs.Blocks.{Has}
use Rattle.zst_block.specs.IoStates.{blocks_of}
use Rattle.zst_block.specs.declared.ptr.Ptr.{Ptr}
use Rattle.zst_model.specs.states.State.{BlockFits, index_bound}
use Rattle.zst_tree.specs.Indices.{TreeIs}
use Rattle.zst_tree.specs.declared.tree.Tree.{Tree}
use Rattle.zst_objset.specs.Changes.{found_at}
use Rattle.zst_objset.specs.Dnodes.{BlockIs}
use Rattle.zst_objset.specs.declared.fault.ObjFault.TheVariants as faults
use Rattle.zst_objset.proofs.AnswerLaws.{disk_fault, found_far, found_there, not_there, object_of, Refuses-disk}
use Rattle.zst_objset.proofs.LeafLaws.{look_on}
use Rattle.std.proofs.Common.{◌+◌}
use Rattle.zst_model.specs.declared.refusals.faults.Quantity.TheVariants as quantities
use Rattle.zst_objset.proofs.LimitLaws.{if_no_limit, no_limit}
use Rattle.zst_tree.proofs.StepLooks.{AtMost-more, AtMost-then}
use Rattle.zst_objset.proofs.answers.read_block.Goals as goal

pub returns-in-Err-clause-looks : goal.returns-in-Err-clause-looks
returns-in-Err-clause-looks g c = AtMost-more (omega arith) c.in-Err.ensures.looks

pub returns-then-index-ge-INDEX_BOUND-clause-looks : goal.returns-then-index-ge-INDEX_BOUND-clause-looks
returns-then-index-ge-INDEX_BOUND-clause-looks g c = AtMost-more (omega arith) c.in-Ok.ensures.looks

pub returns-in-Ok-leaf_at-clause-looks : goal.returns-in-Ok-leaf_at-clause-looks
returns-in-Ok-leaf_at-clause-looks g c = AtMost-then {more = 8} (omega arith) c.in-Ok.ensures.looks (AtMost-then (omega arith) c.in-Ok-leaf_at.ensures.looks c.read_leaf.ensures.looks)

pub returns-in-Err-leaf_at-clause-looks : goal.returns-in-Err-leaf_at-clause-looks
returns-in-Err-leaf_at-clause-looks g c = AtMost-then (omega arith) c.in-Ok.ensures.looks c.in-Err-leaf_at.ensures.looks

pub returns-in-Err-clause-read : goal.returns-in-Err-clause-read
returns-in-Err-clause-read g c = λ snap honest holds long. not_there (blocks_of c.object_there.new.io) snap c.args.object c.args.index [] c.in-Err.fault (c.in-Err.ensures.found snap honest holds)

pub returns-then-index-ge-INDEX_BOUND-clause-read : goal.returns-then-index-ge-INDEX_BOUND-clause-read
returns-then-index-ge-INDEX_BOUND-clause-read g c = λ snap honest holds long.
    let there = c.in-Ok.ensures.found snap honest holds in
    found_far snap c.args.object c.args.index there.object holds.lawful there.there (omega arith)

pub returns-in-Err-leaf_at-clause-read : goal.returns-in-Err-leaf_at-clause-read
returns-in-Err-leaf_at-clause-read g c = λ snap honest holds long.
    let there = c.in-Ok.ensures.found snap (c.in-Err-leaf_at.ensures.looks.looks.reads.honest honest) holds in
    let tree = subst (λ (t : Tree). TreeIs (blocks_of c.object_there.new.io) t there.map) (sym c.tree_of.ensures) there.is.tree in
    Refuses-disk (found_at c.args.object c.args.index snap) (faults.Block c.in-Err-leaf_at.fault) (disk_fault c.in-Err-leaf_at.fault (c.in-Err-leaf_at.ensures.shows there.map honest tree) c.in-Err-leaf_at.ensures.looks.looks.never_full)

pub returns-in-Ok-leaf_at-clause-read : goal.returns-in-Ok-leaf_at-clause-read
unfolding index_bound
returns-in-Ok-leaf_at-clause-read g c = λ snap honest holds long.
    let was = c.read_leaf.ensures.looks.looks.reads.honest honest in
    let there = c.in-Ok.ensures.found snap (c.in-Ok-leaf_at.ensures.looks.looks.reads.honest was) holds in
    let tree = subst (λ (t : Tree). TreeIs (blocks_of c.object_there.new.io) t there.map) (sym c.tree_of.ensures) there.is.tree in
    let same = c.in-Ok-leaf_at.ensures.shows there.map was tree in
    let block = there.object.blocks c.args.index in
    let at : BlockIs (blocks_of c.object_there.new.io) c.in-Ok-leaf_at.ptr block =
    subst (λ (ptr : Ptr). BlockIs (blocks_of c.object_there.new.io) ptr block) (sym same) (there.is.blocks c.args.index (omega arith)) in
    let on = look_on (λ (seen : List ℕ) (space : FreeSectors). BlockIs (Has seen space) c.in-Ok-leaf_at.ptr block) c.in-Ok-leaf_at.ensures.looks.looks at in
    let fits : BlockFits (length c.args.into.now) block = subst (λ (n : ℕ). BlockFits n block) (sym (long there.object there.there)) ((object_of (snap.state c.args.object) there.object there.there (holds.lawful.objects c.args.object)).fits c.args.index) in
    rw (found_there snap c.args.object c.args.index there.object there.there) (c.read_leaf.ensures.read block honest on fits)

pub object_there-requires : goal.object_there-requires
object_there-requires g c = record { object = c.requires.object }

pub returns-then-index-ge-INDEX_BOUND-clause-damaged : goal.returns-then-index-ge-INDEX_BOUND-clause-damaged
returns-then-index-ge-INDEX_BOUND-clause-damaged g c = λ honest. tt

pub returns-in-Err-leaf_at-clause-limits : goal.returns-in-Err-leaf_at-clause-limits
returns-in-Err-leaf_at-clause-limits g c = tt

pub returns-in-Err-clause-limits : goal.returns-in-Err-clause-limits
returns-in-Err-clause-limits g c = no_limit quantities.Block index_bound (c.args.index + 1) c.in-Err.fault c.in-Err.ensures.limits

pub returns-in-Ok-leaf_at-clause-limits : goal.returns-in-Ok-leaf_at-clause-limits
returns-in-Ok-leaf_at-clause-limits g c = if_no_limit quantities.Block index_bound (c.args.index + 1) c.read_leaf.result c.read_leaf.ensures.limits
