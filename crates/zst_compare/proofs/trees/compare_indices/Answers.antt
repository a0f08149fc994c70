use Rattle.std.proofs.Common.{ℕ, List, arith}
use Rattle.std.proofs.lemmas.Result.{err_from_is_err_and}
use Rattle.zst_space.specs.FreeSectors.{FreeSectors}
use Rattle.zst_block.specs.Blocks.{Has}
use Rattle.zst_block.proofs.IoCallLemmas.{Looks-then}
use Rattle.zst_model.specs.states.State.{index_bound}
use Rattle.zst_tree.proofs.LoadedNodes.{there_after}
use Rattle.std.specs.Prelude.{None}
use Rattle.zst_compare.specs.Contents.{HasContents}
use Rattle.zst_compare.proofs.Contents.{kept_then}
use Rattle.zst_compare.proofs.trees.compare_indices.Goals as goal

pub returns-in_err-shared-clause-compared : goal.returns-in_err-shared-clause-compared
returns-in_err-shared-clause-compared g c = λ now was now_dates was_dates honest first second.
    let p = err_from_is_err_and c.from_residual.result c.from_residual.ensures.1 in
    let one = there_after {stop = None} c.loop-index.invariant.looks (λ (seen : List ℕ) (s : FreeSectors). HasContents (Has seen s) c.args.later.now now now_dates) first in
    let two = there_after {stop = None} c.loop-index.invariant.looks (λ (seen : List ℕ) (s : FreeSectors). HasContents (Has seen s) c.args.earlier.now was was_dates) second in
    rw (p.1, p.2) (c.in_err-shared.ensures.kept c.args.number now was now_dates was_dates honest one two)

pub returns-then-shared-ge-INDEX_BOUND-clause-compared : goal.returns-then-shared-ge-INDEX_BOUND-clause-compared
unfolding index_bound
returns-then-shared-ge-INDEX_BOUND-clause-compared g c = λ now was now_dates was_dates honest first second.
    let one = there_after {stop = None} c.loop-index.invariant.looks (λ (seen : List ℕ) (s : FreeSectors). HasContents (Has seen s) c.args.later.now now now_dates) first in
    let two = there_after {stop = None} c.loop-index.invariant.looks (λ (seen : List ℕ) (s : FreeSectors). HasContents (Has seen s) c.args.earlier.now was was_dates) second in
    let before = c.loop-index.invariant.kept now was now_dates was_dates (c.in_ok-shared.ensures.looks.reads.honest honest) first second in
    let all = kept_then c.args.number was was_dates now now_dates 0 c.loop-index.index c.in_ok-shared.shared before (c.in_ok-shared.ensures.kept c.args.number now was now_dates was_dates honest one two) in
    λ i start under small dated. all i start (omega (arith, small, c.if-shared-ge-INDEX_BOUND.true)) small dated

pub returns-in_err-below-clause-compared : goal.returns-in_err-below-clause-compared
returns-in_err-below-clause-compared g c = λ now was now_dates was_dates honest first second.
    let p = err_from_is_err_and c.from_residual-in_err-below.result c.from_residual-in_err-below.ensures.1 in
    let looks = Looks-then c.loop-index.invariant.looks c.in_ok-shared.ensures.looks in
    let one = there_after {stop = None} looks (λ (seen : List ℕ) (s : FreeSectors). HasContents (Has seen s) c.args.later.now now now_dates) first in
    let two = there_after {stop = None} looks (λ (seen : List ℕ) (s : FreeSectors). HasContents (Has seen s) c.args.earlier.now was was_dates) second in
    rw (p.1, p.2) (c.in_err-below.ensures.compared now was now_dates was_dates honest one two)

pub loop-index-preserved : goal.loop-index-preserved
loop-index-preserved g c = record {
  kept = λ now was now_dates was_dates honest first second.
      let looks = Looks-then c.loop-index.invariant.looks c.in_ok-shared.ensures.looks in
      let mid = c.in_ok-below.ensures.looks.reads.honest honest in
      let one = there_after {stop = None} c.loop-index.invariant.looks (λ (seen : List ℕ) (s : FreeSectors). HasContents (Has seen s) c.args.later.now now now_dates) first in
      let two = there_after {stop = None} c.loop-index.invariant.looks (λ (seen : List ℕ) (s : FreeSectors). HasContents (Has seen s) c.args.earlier.now was was_dates) second in
      let on = there_after {stop = None} looks (λ (seen : List ℕ) (s : FreeSectors). HasContents (Has seen s) c.args.later.now now now_dates) first in
      let over = there_after {stop = None} looks (λ (seen : List ℕ) (s : FreeSectors). HasContents (Has seen s) c.args.earlier.now was was_dates) second in
      let before = c.loop-index.invariant.kept now was now_dates was_dates (c.in_ok-shared.ensures.looks.reads.honest mid) first second in
      let passed = kept_then c.args.number was was_dates now now_dates 0 c.loop-index.index c.in_ok-shared.shared before (c.in_ok-shared.ensures.kept c.args.number now was now_dates was_dates mid one two) in
      kept_then c.args.number was was_dates now now_dates 0 c.in_ok-shared.shared c.in-Some.below passed (rw c.in-Some.is at (c.in_ok-below.ensures.compared now was now_dates was_dates honest on over));
  looks = Looks-then (Looks-then c.loop-index.invariant.looks c.in_ok-shared.ensures.looks) c.in_ok-below.ensures.looks;
}

pub returns-in-None-clause-compared : goal.returns-in-None-clause-compared
returns-in-None-clause-compared g c = λ now was now_dates was_dates honest first second.
    let looks = Looks-then c.loop-index.invariant.looks c.in_ok-shared.ensures.looks in
    let one = there_after {stop = None} looks (λ (seen : List ℕ) (s : FreeSectors). HasContents (Has seen s) c.args.later.now now now_dates) first in
    let two = there_after {stop = None} looks (λ (seen : List ℕ) (s : FreeSectors). HasContents (Has seen s) c.args.earlier.now was was_dates) second in
    rw c.in-None.is at (c.in_ok-below.ensures.compared now was now_dates was_dates honest one two)

pub returns-clause-compared : goal.returns-clause-compared
unfolding index_bound
returns-clause-compared g c = λ now was now_dates was_dates honest first second.
    λ i start under small dated. c.loop-index.invariant.kept now was now_dates was_dates honest first second i start (omega (arith, small, c.loop-index-test.false)) small dated
