use Rattle.std.proofs.Common.{ℕ, sym, subst}
use Rattle.std.specs.Prelude.{Err, Result}
use Rattle.std.proofs.lemmas.Result.{err_from_is_err_and}
use Rattle.zst_block.specs.IoStates.{blocks_of, disk_of}
use Rattle.zst_block.specs.declared.fault.BlockFault.{BlockFault}
use Rattle.zst_model.specs.states.State.{index_bound}
use Rattle.zst_tree.specs.Damage.{IsSeen, NamesDamage, SumsUp}
use Rattle.zst_tree.specs.Indices.{TreeIs}
use Rattle.zst_tree.specs.declared.tree.Tree.{Tree}
use Rattle.zst_check.proofs.LateDates.{date_late, found_late}
use Rattle.zst_check.proofs.StateDamage.{tree_damaged}
use Rattle.zst_check.proofs.dates.late_block.Goals as goal

pub returns-then-dnode-number-clause-late : goal.returns-then-dnode-number-clause-late
unfolding index_bound
returns-then-dnode-number-clause-late g c = λ state object honest there included.
    date_late c.args.number state (blocks_of c.args.io.now) object c.args.dnode.now there included c.if-dnode-number.true

pub returns-in_err-index-clause-late : goal.returns-in_err-index-clause-late
returns-in_err-index-clause-late g c = λ state object honest there included.
    let p = err_from_is_err_and c.from_residual.result c.from_residual.ensures.1 in
    rw (p.1, p.2) (c.in_err-index.ensures.first there.map honest (subst (λ (t : Tree). TreeIs (blocks_of c.args.io.now) t there.map) (sym c.tree_of.ensures) there.is.tree))

pub returns-clause-late : goal.returns-clause-late
returns-clause-late g c = λ state object honest there included.
    found_late c.args.number state (blocks_of c.args.io.now) object c.args.dnode.now there included c.if-dnode-number.false c.in_ok-index.index
    (c.in_ok-index.ensures.first there.map honest (subst (λ (t : Tree). TreeIs (blocks_of c.args.io.now) t there.map) (sym c.tree_of.ensures) there.is.tree))
    c.unwrap_or.result 8796093022208 c.unwrap_or.ensures

pub returns-in_err-index-clause-damaged : goal.returns-in_err-index-clause-damaged
returns-in_err-index-clause-damaged g c = λ set honest stands.
    let p = err_from_is_err_and c.from_residual.result c.from_residual.ensures.1 in
    let disk = disk_of c.args.io.now in
    let result : Result ℕ BlockFault = Err c.in_err-index.field-0.0 in
    rw (p.1, p.2)
    (tree_damaged (IsSeen disk.seen) disk.size set c.args.dnode.now stands result
    (subst (λ (t : Tree). NamesDamage (IsSeen disk.seen) disk.size (SumsUp (IsSeen disk.seen)) t.levels t.root result) c.tree_of.ensures (c.in_err-index.ensures.damaged honest)))
