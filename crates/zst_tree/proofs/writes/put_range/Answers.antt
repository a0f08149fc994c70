use Rattle.std.proofs.Common.{inr, zero-add, arith}
use Rattle.std.proofs.lemmas.Result.{err_from_is_err_and}
use Rattle.zst_block.proofs.IoCallLemmas.{Works-then, Works-more}
use Rattle.zst_tree.specs.Damage.{NamesNode}
use Rattle.zst_tree.specs.Indices.{span}
use Rattle.zst_tree.proofs.WriteCounts.{most_two, most-single}
use Rattle.zst_tree.proofs.LaterDamage.{NamesDamage-never}
use Rattle.zst_tree.proofs.RangeChanges.{PutsRange-done, PutsRange-only_grown, PutsRange-refused}
use Rattle.zst_tree.proofs.TreeMaps.{over, over_changed, range_holds}
use Rattle.zst_tree.proofs.TreeDates.{all_dated, below_dated, over_dated, past_dated}
use Rattle.zst_tree.proofs.writes.put_range.Goals as goal

pub returns-in_err-grown-clause-changes : goal.returns-in_err-grown-clause-changes
returns-in_err-grown-clause-changes g c =
    let p = err_from_is_err_and c.from_residual.result c.from_residual.ensures.1 in
    rw (p.1, p.2) (PutsRange-refused c.args.tree.now _ c.requires.levels
    (λ whole honest stands. c.in_err-grown.ensures.grown whole stands)
    (λ honest. NamesDamage-never _ _ NamesNode c.args.tree.now.levels c.args.tree.now.root _ c.in_err-grown.ensures.never_damaged)
    (Works-more (omega arith) c.in_err-grown.ensures.works))

pub returns-in_err-root-clause-changes : goal.returns-in_err-root-clause-changes
returns-in_err-root-clause-changes g c =
    let two = most_two c.in_ok-grown.grown.levels c.args.first c.args.below in
    let p = err_from_is_err_and c.from_residual-in_err-root.result c.from_residual-in_err-root.ensures.1 in
    rw (p.1, p.2) (PutsRange-only_grown c.grow_to.new.io c.args.tree.now c.in_ok-grown.grown c.requires.levels (omega (arith, two, c.in_ok-grown.ensures.size.1, c.in_ok-grown.ensures.size.2))
    c.in_ok-grown.ensures.works (c.in_ok-grown.ensures.within c.args.leaf) _
    (λ whole honest stands. c.in_err-root.ensures.put 0 whole (over whole c.args.first c.args.below c.args.leaf) honest (c.in_ok-grown.ensures.grown whole stands).below
    (simp zero-add (over_changed whole 0 c.args.first c.args.below (span c.in_ok-grown.grown.levels) c.args.leaf)))
    c.in_err-root.ensures.damaged c.in_err-root.ensures.works)

pub returns-clause-changes : goal.returns-clause-changes
returns-clause-changes g c =
    let two = most_two c.in_ok-grown.grown.levels c.args.first c.args.below in
    PutsRange-done c.grow_to.new.io c.args.tree.now c.in_ok-grown.grown c.requires.levels (omega (arith, two, c.in_ok-grown.ensures.size.1, c.in_ok-grown.ensures.size.2))
    c.in_ok-grown.ensures.works (c.in_ok-grown.ensures.within c.args.leaf) c.in_ok-grown.grown.past c.in_ok-root.root c.in_ok-grown.ensures.size.1 c.in_ok-grown.ensures.root (inr c.in_ok-root.ensures.root)
    (λ map put honest holds puts.
    let stands = c.in_ok-grown.ensures.grown holds.whole holds.stands in
    range_holds _ _ _ _ holds.whole map put _ _ _ c.in_ok-grown.ensures.size.0 stands.past holds.agrees puts
    (c.in_ok-root.ensures.put 0 holds.whole (over holds.whole c.args.first c.args.below c.args.leaf) honest stands.below
    (simp zero-add (over_changed holds.whole 0 c.args.first c.args.below (span c.in_ok-grown.grown.levels) c.args.leaf))))
    c.in_ok-root.ensures.within c.in_ok-root.ensures.works

pub returns-in_err-root-clause-one : goal.returns-in_err-root-clause-one
returns-in_err-root-clause-one g c = λ single.
    let one = most-single c.in_ok-grown.grown.levels c.args.first c.args.below single in
    let p = err_from_is_err_and c.from_residual-in_err-root.result c.from_residual-in_err-root.ensures.1 in
    rw (p.1, p.2) (Works-more (omega (arith, one, c.in_ok-grown.ensures.size.1, c.in_ok-grown.ensures.size.2)) (Works-then c.in_ok-grown.ensures.works c.in_err-root.ensures.works))

pub returns-clause-one : goal.returns-clause-one
returns-clause-one g c = λ single.
    let one = most-single c.in_ok-grown.grown.levels c.args.first c.args.below single in
    Works-more (omega (arith, one, c.in_ok-grown.ensures.size.1, c.in_ok-grown.ensures.size.2)) (Works-then c.in_ok-grown.ensures.works c.in_ok-root.ensures.works)

pub returns-clause-dated : goal.returns-clause-dated
returns-clause-dated g c = λ bound map honest holds dated early.
    let stands = c.in_ok-grown.ensures.grown holds.whole holds.stands in
    let all = all_dated _ bound c.args.tree.now holds.whole holds.stands dated in (
      past_dated _ bound c.in_ok-grown.grown holds.whole stands all,
      below_dated _ bound _ c.in_ok-root.root 0 (over holds.whole c.args.first c.args.below c.args.leaf) (over_dated bound holds.whole c.args.first c.args.below c.args.leaf early all)
          (c.in_ok-root.ensures.put 0 holds.whole (over holds.whole c.args.first c.args.below c.args.leaf) honest stands.below
          (simp zero-add (over_changed holds.whole 0 c.args.first c.args.below (span c.in_ok-grown.grown.levels) c.args.leaf))),
    )

pub returns-in_err-grown-clause-dated : goal.returns-in_err-grown-clause-dated
returns-in_err-grown-clause-dated g c = λ bound map honest holds dated leaf.
    let p = err_from_is_err_and c.from_residual.result c.from_residual.ensures.1 in
    rw p.1 tt

pub returns-in_err-root-clause-dated : goal.returns-in_err-root-clause-dated
returns-in_err-root-clause-dated g c = λ bound map honest holds dated leaf.
    let p = err_from_is_err_and c.from_residual-in_err-root.result c.from_residual-in_err-root.ensures.1 in
    rw p.1 tt

pub grow_to-requires-clause-levels : goal.grow_to-requires-clause-levels
grow_to-requires-clause-levels g c = c.requires.levels

pub grow_to-requires-clause-need : goal.grow_to-requires-clause-need
grow_to-requires-clause-need g c = c.requires.below

pub put_in-requires-clause-level : goal.put_in-requires-clause-level
put_in-requires-clause-level g c = c.in_ok-grown.ensures.size.1
