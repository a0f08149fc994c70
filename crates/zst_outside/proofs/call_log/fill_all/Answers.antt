use Rattle.std.proofs.Common.{◌∙◌, ◌<◌, ◌+◌, ℕ, subst, arith, take, get_or, length, inl, inr}
use Rattle.std.proofs.lemmas.List.{take_more}
use Rattle.std.proofs.lemmas.Bool.{cases_lt}
use Rattle.zst_outside.specs.CallLog.{Touched}
use Rattle.zst_outside.proofs.RangeLists.{untouched_at, touched_push}
use Rattle.zst_outside.proofs.call_log.fill_all.Goals as goal

pub loop-range-preserved : goal.loop-range-preserved
loop-range-preserved c =
    let i = c.loop-range.range-index in
    let ranges = c.args.ranges.now in
    let d : ℕ × ℕ = (0, 0) in
    let range = get_or ranges i d in
    let fill = c.fill_range.ensures in
    let before = c.loop-range.invariant in
    record {
      others = record {
        size = fill.size ∙ before.others.size;
        at = λ k free. fill.others k (untouched_at k ranges i d c.loop-range-test.true free) ∙ before.others.at k free;
      };
      filled = λ k lt touched.
          let inside : k < length c.loop-range.bytes.items = omega (arith, lt, fill.size) in
          elim (touched_push k (take i ranges) range (subst (Touched k) (take_more ranges i d c.loop-range-test.true) touched)) [
            | inl earlier ↦ elim (cases_lt k range.0) [
              | inl low ↦ fill.others k (inl low) ∙ before.filled k inside earlier
              | inr from ↦ elim (cases_lt k (range.0 + range.1)) [
                | inl high ↦ fill.filled k inside from high
                | inr past ↦ fill.others k (inr past) ∙ before.filled k inside earlier
              ]
            ]
            | inr last ↦ fill.filled k inside last.0 last.1
          ];
    }
