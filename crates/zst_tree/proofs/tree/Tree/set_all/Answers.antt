use Rattle.std.proofs.Common.{arith}
use Rattle.std.proofs.lemmas.Result.{err_from_is_err_and}
use Rattle.zst_block.proofs.IoCallLemmas.{Works-then, Works-more}
use Rattle.zst_tree.specs.Damage.{NamesNode}
use Rattle.zst_tree.specs.Leaves.{with_leaves}
use Rattle.zst_tree.proofs.ChangedTrees.{IsSummedBelow-size, IsSummedBelow-then}
use Rattle.zst_tree.proofs.LaterDamage.{fault_after}
use Rattle.zst_tree.proofs.LeafMaps.{dated, has_level, leaves_hold, part_below}
use Rattle.zst_tree.proofs.TreeDates.{all_dated, below_dated, past_dated}
use Rattle.zst_tree.proofs.tree.Tree.set_all.Goals as goal

pub put_leaves-requires-clause-inner : goal.put_leaves-requires-clause-inner
put_leaves-requires-clause-inner g c = has_level _ c.args.group c.in_ok-grown.ensures.size.0

pub put_leaves-requires-clause-part : goal.put_leaves-requires-clause-part
put_leaves-requires-clause-part g c = part_below _ c.args.group c.in_ok-grown.ensures.size.0

pub returns-in_err-root-clause-holds : goal.returns-in_err-root-clause-holds
returns-in_err-root-clause-holds g c = λ map honest holds.
    let stands = c.in_ok-grown.ensures.grown holds.whole holds.stands in
    let p = err_from_is_err_and c.from_residual-in_err-root.result c.from_residual-in_err-root.ensures.1 in
    rw (p.1, p.2) (c.in_err-root.ensures.put c.args.group 0 holds.whole honest (omega arith) c.requires.leaves stands.below)

pub returns-in_err-root-clause-damaged : goal.returns-in_err-root-clause-damaged
returns-in_err-root-clause-damaged g c = λ honest.
    let p = err_from_is_err_and c.from_residual-in_err-root.result c.from_residual-in_err-root.ensures.1 in
    rw (p.1, p.2) (fault_after _ _ _ _ c.in_ok-grown.ensures.works.fills NamesNode c.args.self.now.levels c.args.self.now.root c.in_ok-grown.grown.levels c.in_ok-grown.grown.root (c.in_ok-grown.ensures.within c.in_ok-grown.grown.root).below _ (c.in_err-root.ensures.damaged honest))

pub returns-in_err-root-clause-works : goal.returns-in_err-root-clause-works
returns-in_err-root-clause-works g c =
    let p = err_from_is_err_and c.from_residual-in_err-root.result c.from_residual-in_err-root.ensures.1 in
    rw (p.1, p.2) (Works-more (omega (arith, c.in_ok-grown.ensures.size.1, c.in_ok-grown.ensures.size.2)) (Works-then c.in_ok-grown.ensures.works c.in_err-root.ensures.works))

pub returns-clause-holds : goal.returns-clause-holds
returns-clause-holds g c = λ map honest holds.
    let stands = c.in_ok-grown.ensures.grown holds.whole holds.stands in
    leaves_hold _ _ _ _ holds.whole map c.args.group c.args.leaves.now c.requires.leaves c.in_ok-grown.ensures.size.0 stands.past holds.agrees
    (c.in_ok-root.ensures.put c.args.group 0 holds.whole honest (omega arith) c.requires.leaves stands.below)

pub returns-clause-sums : goal.returns-clause-sums
returns-clause-sums g c = λ honest.
    IsSummedBelow-then _ _ _ _ _ _ _ (c.in_ok-grown.ensures.within c.in_ok-grown.grown.root).sums _ _ _ (IsSummedBelow-size _ _ _ _ _ c.in_ok-grown.ensures.works.fills.size _ _ _ (c.in_ok-root.ensures.sums honest))

pub returns-clause-root : goal.returns-clause-root
returns-clause-root g c = (has_level _ c.args.group c.in_ok-grown.ensures.size.0, c.in_ok-root.ensures.names)

pub returns-clause-dated : goal.returns-clause-dated
returns-clause-dated g c = λ bound map honest holds early_tree early.
    let stands = c.in_ok-grown.ensures.grown holds.whole holds.stands in
    let all = all_dated _ bound c.args.self.now holds.whole holds.stands early_tree in (
      past_dated _ bound c.in_ok-grown.grown holds.whole stands all,
      below_dated _ bound _ c.in_ok-root.root 0 (with_leaves holds.whole c.args.leaves.now) (dated bound holds.whole c.args.leaves.now early all)
          (c.in_ok-root.ensures.put c.args.group 0 holds.whole honest (omega arith) c.requires.leaves stands.below),
    )

pub returns-clause-works : goal.returns-clause-works
returns-clause-works g c = Works-more (omega (arith, c.in_ok-grown.ensures.size.1, c.in_ok-grown.ensures.size.2)) (Works-then c.in_ok-grown.ensures.works c.in_ok-root.ensures.works)
