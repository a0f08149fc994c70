use Rattle.std.proofs.Common.{sym, ◌∙◌}
use Rattle.std.proofs.lemmas.Bool.{and_left, and_right}
use Rattle.zst_model.proofs.RunLists.{run_list_step}
use Rattle.zst_model.proofs.fields.list.is_run_list.Goals as goal
use Rattle.zst_model.proofs.fields.list.is_run_list.Goals.{then-not-is_run-via-then-not-is_run, then-not-is_run-via-else-not-is_run+then-not-stands_before}

pub returns-then-not-is_run : goal.returns-then-not-is_run
returns-then-not-is_run c =
    let step = c.loop-run.invariant ∙ run_list_step c.loop-run.last.now c.in-Some.rest.now c.loop-run.run-index (record { object = 0; first = 0; count = 0 }) c.loop-run-test.true in
    elim c.then-not-is_run.branch [
      | then-not-is_run-via-then-not-is_run w ↦ sym (step ∙ and_left _ _ (sym c.is_run.ensures ∙ w.if-not-is_run.true))
      | then-not-is_run-via-else-not-is_run+then-not-stands_before w ↦
          sym (step ∙ and_right _ _ (and_left _ _ (sym w.stands_before.ensures ∙ w.if-not-stands_before.true)))
    ]
