use Rattle.std.proofs.Common.{rules, ◌≡◌, arith}
use Rattle.zst_marks.proofs.Extents.{piece_of, joins_last, are_more, kept_marked, kept_unmarked}
use Rattle.zst_marks.proofs.marks.Marks.unmarked.Goals.{then-has+in_ok-put, else-has}
use Rattle.zst_marks.proofs.marks.Marks.unmarked.Goals as goal

pub loop-sector-init : goal.loop-sector-init
loop-sector-init c = record {
  joins = λ rest end rise. rw c.new-extents.ensures.items rise;
  are = λ s. rw c.new-extents.ensures.items ((λ none. absurd none), (λ u. omega (arith, u.from_on, u.under)));
  clear = λ s on under. omega (arith, on, under);
  from_on = omega arith;
  under = omega arith;
}

pub loop-sector-preserved : goal.loop-sector-preserved
loop-sector-preserved c = elim c.if-has.branch [
  | then-has+in_ok-put w ↦ rw (w.extents-is, w.first-is, w.in_ok-put.ensures)
      (kept_marked c.args.self.now c.args.from c.loop-sector.first c.loop-sector.sector c.loop-sector.extents.items _ c.loop-sector.invariant (piece_of c.loop-sector.first c.loop-sector.sector) (c.has.ensures.0 w.if-has.true))
  | else-has w ↦ rw (w.extents-is, w.first-is)
      (kept_unmarked c.args.self.now c.args.from c.loop-sector.first c.loop-sector.sector c.loop-sector.extents.items c.loop-sector.invariant (λ marked. let no = w.if-has.ensures.1 marked in search rules))
]

pub returns-clause-rise : goal.returns-clause-rise
returns-clause-rise c =
    let kept = c.loop-sector.invariant in
    let last : c.loop-sector.sector ≡ c.args.end = omega arith in
    rw c.in_ok-put-2.ensures (joins_last c.args.from c.loop-sector.first c.args.end c.loop-sector.extents.items _ (omega (arith, kept.under, last)) (piece_of c.loop-sector.first c.args.end) kept.joins)

pub returns-clause-are : goal.returns-clause-are
returns-clause-are c = λ sector.
    let kept = c.loop-sector.invariant in
    let last : c.loop-sector.sector ≡ c.args.end = omega arith in
    rw c.in_ok-put-2.ensures (are_more c.args.self.now c.args.from c.loop-sector.first c.args.end c.loop-sector.extents.items _ kept.from_on (omega (arith, kept.under, last)) (piece_of c.loop-sector.first c.args.end)
    (λ s on under. kept.clear s on (omega (arith, under, last))) kept.are sector)
