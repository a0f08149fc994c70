use Rattle.std.proofs.Common.{rules, arith}
use Rattle.std.proofs.lemmas.Result.{err_from_is_err_and}
use Rattle.zst_block.specs.Ptr.{hole_of}
use Rattle.zst_block.proofs.IoCallLemmas.{Works-more}
use Rattle.zst_tree.specs.Damage.{NamesNode}
use Rattle.zst_tree.specs.Indices.{span}
use Rattle.zst_tree.proofs.WriteCounts.{most_two}
use Rattle.zst_tree.proofs.LaterDamage.{NamesDamage-never}
use Rattle.zst_tree.proofs.RangeChanges.{PutsRange-done, PutsRange-only_grown, PutsRange-refused}
use Rattle.zst_tree.proofs.TreeMaps.{over_on, over_on-changed, tail_holds}
use Rattle.zst_tree.proofs.TreeDates.{all_dated, below_dated, over_on-dated}
use Rattle.zst_tree.proofs.writes.punch_on.Goals as goal

pub returns-in_err-grown-clause-changes : goal.returns-in_err-grown-clause-changes
returns-in_err-grown-clause-changes g c =
    let p = err_from_is_err_and c.from_residual.result c.from_residual.ensures.1 in
    rw (p.1, p.2) (PutsRange-refused c.args.tree.now _ c.requires.levels
    (λ whole honest stands. c.in_err-grown.ensures.grown whole stands)
    (λ honest. NamesDamage-never _ _ NamesNode c.args.tree.now.levels c.args.tree.now.root _ c.in_err-grown.ensures.never_damaged)
    (Works-more (omega arith) c.in_err-grown.ensures.works))

pub returns-in_err-root-clause-changes : goal.returns-in_err-root-clause-changes
returns-in_err-root-clause-changes g c =
    let two = most_two c.in_ok-grown.grown.levels c.args.first (span c.in_ok-grown.grown.levels) in
    let hole = hole_of c.args.number in
    let p = err_from_is_err_and c.from_residual-in_err-root.result c.from_residual-in_err-root.ensures.1 in
    rw (p.1, p.2) (PutsRange-only_grown c.grow_to.new.io c.args.tree.now c.in_ok-grown.grown c.requires.levels (omega (arith, two, c.in_ok-grown.ensures.size.1, c.in_ok-grown.ensures.size.2))
    c.in_ok-grown.ensures.works (c.in_ok-grown.ensures.within hole) _
    (λ whole honest stands. c.in_err-root.ensures.puts whole (over_on whole c.args.first hole) honest (c.in_ok-grown.ensures.grown whole stands).below (over_on-changed whole 0 c.args.first (span c.in_ok-grown.grown.levels) hole))
    c.in_err-root.ensures.damaged c.in_err-root.ensures.works)

pub returns-clause-changes : goal.returns-clause-changes
returns-clause-changes g c =
    let two = most_two c.in_ok-grown.grown.levels c.args.first (span c.in_ok-grown.grown.levels) in
    let hole = hole_of c.args.number in
    PutsRange-done c.grow_to.new.io c.args.tree.now c.in_ok-grown.grown c.requires.levels (omega (arith, two, c.in_ok-grown.ensures.size.1, c.in_ok-grown.ensures.size.2))
    c.in_ok-grown.ensures.works (c.in_ok-grown.ensures.within hole) c.args.number c.in_ok-root.root c.in_ok-grown.ensures.size.1 c.in_ok-grown.ensures.root c.in_ok-root.ensures.root
    (λ map put honest holds puts.
    let stands = c.in_ok-grown.ensures.grown holds.whole holds.stands in
    tail_holds _ _ _ holds.whole map put _ _ c.in_ok-grown.ensures.size.0 holds.agrees puts
    (c.in_ok-root.ensures.puts holds.whole (over_on holds.whole c.args.first hole) honest stands.below (over_on-changed holds.whole 0 c.args.first (span c.in_ok-grown.grown.levels) hole)))
    c.in_ok-root.ensures.within c.in_ok-root.ensures.works

pub returns-clause-dated : goal.returns-clause-dated
returns-clause-dated g c = λ bound map honest holds dated early.
    let stands = c.in_ok-grown.ensures.grown holds.whole holds.stands in
    let hole = hole_of c.args.number in (
      early,
      below_dated _ bound _ c.in_ok-root.root 0 (over_on holds.whole c.args.first hole) (over_on-dated bound holds.whole c.args.first hole early (all_dated _ bound c.args.tree.now holds.whole holds.stands dated))
          (c.in_ok-root.ensures.puts holds.whole (over_on holds.whole c.args.first hole) honest stands.below (over_on-changed holds.whole 0 c.args.first (span c.in_ok-grown.grown.levels) hole)),
    )

pub returns-in_err-grown-clause-dated : goal.returns-in_err-grown-clause-dated
returns-in_err-grown-clause-dated g c = λ bound map honest holds dated leaf.
    let p = err_from_is_err_and c.from_residual.result c.from_residual.ensures.1 in
    rw p.1 tt

pub returns-in_err-root-clause-dated : goal.returns-in_err-root-clause-dated
returns-in_err-root-clause-dated g c = λ bound map honest holds dated leaf.
    let p = err_from_is_err_and c.from_residual-in_err-root.result c.from_residual-in_err-root.ensures.1 in
    rw p.1 tt

pub grow_to-requires-clause-levels : goal.grow_to-requires-clause-levels
grow_to-requires-clause-levels g c = c.requires.levels

pub grow_to-requires-clause-need : goal.grow_to-requires-clause-need
grow_to-requires-clause-need g c = search rules

pub punch_end-requires-clause-levels : goal.punch_end-requires-clause-levels
punch_end-requires-clause-levels g c = c.in_ok-grown.ensures.size.1
