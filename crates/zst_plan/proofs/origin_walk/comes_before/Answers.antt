use Rattle.std.proofs.Common.{◌≡◌, ◌||◌, true, ◌∙◌, sym, ap}
use Rattle.zst_model.specs.sends.SendPlan.{earlier_origin, is_earlier, marks}
use Rattle.zst_plan.specs.Sources.{FoundSnapshot}
use Rattle.zst_plan.proofs.Walk.{walk_ends, walk_finds, walks_on}
use Rattle.zst_plan.proofs.origin_walk.comes_before.Goals.{then-is_earlier-via-then-is_earlier, then-is_earlier-via-else-is_earlier+then-marks}
use Rattle.zst_plan.proofs.origin_walk.comes_before.Goals as goal
use Rattle.zst_plan.proofs.AlikeAnswers.{none_alike, some_alike}

pub returns-then-is_earlier : goal.returns-then-is_earlier
returns-then-is_earlier c = λ pool from to are names is.
    let at = c.loop-origin.invariant pool from to are names is in
    let next = some_alike FoundSnapshot c.in-Some.origin (earlier_origin pool at.0) (c.in-Some.ensures.found pool at.0 are at.1) in
    sym (at.2 ∙ walk_finds pool from at.0 next.0 next.1 (elim c.then-is_earlier.branch as (λ _. (is_earlier from at.0 || marks from next.0) ≡ true) [
      | then-is_earlier-via-then-is_earlier w ↦ ap (λ b. b || marks from next.0) (sym (c.is_earlier.ensures from at.0 names at.1) ∙ w.if-is_earlier.true)
      | then-is_earlier-via-else-is_earlier+then-marks w ↦
          ap (λ b. b || marks from next.0) (sym (c.is_earlier.ensures from at.0 names at.1) ∙ w.if-is_earlier.false) ∙ sym (w.marks.ensures from next.0 names next.2) ∙ w.if-marks.true
    ]))

pub loop-origin-preserved : goal.loop-origin-preserved
loop-origin-preserved c = λ pool from to are names is.
    let at = c.loop-origin.invariant pool from to are names is in
    let next = some_alike FoundSnapshot c.in-Some.origin (earlier_origin pool at.0) (c.in-Some.ensures.found pool at.0 are at.1) in (
      next.0,
      next.2,
      at.2 ∙ walks_on pool from at.0 next.0 next.1
          (sym (c.is_earlier.ensures from at.0 names at.1) ∙ c.if-is_earlier.false) (sym (c.marks.ensures from next.0 names next.2) ∙ c.if-marks.false),
    )

pub returns : goal.returns
returns c = λ pool from to are names is.
    let at = c.loop-origin.invariant pool from to are names is in
    c.is_earlier-2.ensures from at.0 names at.1 ∙ sym (at.2 ∙ walk_ends pool from at.0 (none_alike FoundSnapshot (earlier_origin pool at.0) (c.in_default.ensures.found pool at.0 are at.1)))
