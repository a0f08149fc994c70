use Rattle.std.proofs.Common.{rules, ◌≡◌, ◌⊎◌, ℕ, true, List, Err, inl, inr, refl, sym, ap, subst, ◌∙◌}
use Rattle.zst_model.specs.pools.Pool.{dataset_named}
use Rattle.zst_model.specs.declared.refusals.plan_fault.PlanFault.{PlanFault}
use Rattle.zst_model.specs.declared.refusals.refusal.Refusal.{Refusal}
use Rattle.zst_model.specs.declared.refusals.subjects.Name.TheVariants as names
use Rattle.zst_model.specs.pools.Step.{clone_of, no_such}
use Rattle.zst_model.proofs.Results.{err_is}
use Rattle.zst_pool.specs.Checks.{with_new}
use Rattle.zst_pool.specs.Lineage.{JudgesClone}
use Rattle.zst_pool.specs.Plans.{IsLast, is_by_rows}
use Rattle.zst_pool.proofs.CheckLemmas.{err_has}
use Rattle.zst_pool.proofs.SnapshotRows.{clone_is_new, clone_of_none, clone_without_source}
use Rattle.zst_pool.proofs.lineage.plan_clone.Goals as goal

-- what the rows or the last number refuse
abbrev Refused : ℕ → PlanFault → Type 0
Refused number fault = (is_by_rows fault ≡ true) ⊎ IsLast number fault

pub returns-clause-plans : goal.returns-clause-plans
returns-clause-plans c = record {
  number = search rules;
  refused = search rules;
  judged = λ pool are number.
      let origin = c.args.origin.now in
      let name = c.args.name.now in
      let taken = c.in_ok-snapshot.ensures.finds.judged pool are in
      let source = c.in_ok-source.ensures.finds.judged pool are in
      let clone = clone_of name source.0 taken.0 in (
        c.in_ok-source.source.now,
        c.in_ok-snapshot.snapshot.now,
        source.0,
        taken.0,
        source.1,
        taken.1,
        c.clone_row.ensures.makes.same,
        clone_is_new origin name pool source.0 taken.0 taken.2 taken.3 (ap (λ n. dataset_named n pool) (sym c.dataset.ensures) ∙ source.2)
            ∙ c.in_ok-check_new_dataset.ensures.checks.judged pool are clone refl ∙ c.in_ok-check_number.ensures.judged (with_new clone pool) number,
      );
}

pub returns-in_err-snapshot-clause-plans : goal.returns-in_err-snapshot-clause-plans
returns-in_err-snapshot-clause-plans c = record {
  number = search rules;
  refused = err_has (Refused c.args.kept.now.body.uber.number) c.from_residual.result c.in_err-snapshot.field-0.0 c.from_residual.ensures.1 (inl c.in_err-snapshot.ensures.finds.rows);
  judged = λ pool are number.
      let origin = c.args.origin.now in
      let name = c.args.name.now in
      let fault = c.in_err-snapshot.field-0.0 in
      let found = c.in_err-snapshot.ensures.finds.judged pool are in
      subst (JudgesClone c.args.kept.now.dir origin name pool) (sym (err_is c.from_residual.result fault c.from_residual.ensures.1)) (clone_of_none origin name pool found.0 ∙ ap (λ (r : Refusal). Err r) (sym found.1));
}

pub returns-in_err-source-clause-plans : goal.returns-in_err-source-clause-plans
returns-in_err-source-clause-plans c = record {
  number = search rules;
  refused = err_has (Refused c.args.kept.now.body.uber.number) c.from_residual-in_err-source.result c.in_err-source.field-0.0 c.from_residual-in_err-source.ensures.1 (inl c.in_err-source.ensures.finds.rows);
  judged = λ pool are number.
      let origin = c.args.origin.now in
      let name = c.args.name.now in
      let fell = c.from_residual-in_err-source in
      let fault = c.in_err-source.field-0.0 in
      let taken = c.in_ok-snapshot.ensures.finds.judged pool are in
      let found = c.in_err-source.ensures.finds.judged pool are in
      subst (JudgesClone c.args.kept.now.dir origin name pool) (sym (err_is fell.result fault fell.ensures.1))
      (clone_without_source origin name pool taken.0 taken.2 taken.3 (ap (λ n. dataset_named n pool) (sym c.dataset.ensures) ∙ found.0)
      ∙ ap (λ (n : List ℕ). Err (no_such (names.Dataset n))) (sym c.dataset.ensures) ∙ ap (λ (r : Refusal). Err r) (sym found.1));
}

pub returns-in_err-check_new_dataset-clause-plans : goal.returns-in_err-check_new_dataset-clause-plans
returns-in_err-check_new_dataset-clause-plans c = record {
  number = search rules;
  refused = err_has (Refused c.args.kept.now.body.uber.number) c.from_residual-in_err-check_new_dataset.result c.in_err-check_new_dataset.field-0.0 c.from_residual-in_err-check_new_dataset.ensures.1 (inl c.in_err-check_new_dataset.ensures.checks.rows);
  judged = λ pool are number.
      let origin = c.args.origin.now in
      let name = c.args.name.now in
      let fell = c.from_residual-in_err-check_new_dataset in
      let taken = c.in_ok-snapshot.ensures.finds.judged pool are in
      let source = c.in_ok-source.ensures.finds.judged pool are in
      subst (JudgesClone c.args.kept.now.dir origin name pool) (sym (err_is fell.result c.in_err-check_new_dataset.field-0.0 fell.ensures.1))
      (clone_is_new origin name pool source.0 taken.0 taken.2 taken.3 (ap (λ n. dataset_named n pool) (sym c.dataset.ensures) ∙ source.2)
      ∙ c.in_err-check_new_dataset.ensures.checks.judged pool are (clone_of name source.0 taken.0) refl);
}

pub returns-in_err-check_number-clause-plans : goal.returns-in_err-check_number-clause-plans
returns-in_err-check_number-clause-plans c = record {
  number = search rules;
  refused = err_has (Refused c.args.kept.now.body.uber.number) c.from_residual-in_err-check_number.result c.in_err-check_number.field-0.0 c.from_residual-in_err-check_number.ensures.1 (inr c.in_err-check_number.ensures.last);
  judged = λ pool are number.
      let origin = c.args.origin.now in
      let name = c.args.name.now in
      let fell = c.from_residual-in_err-check_number in
      let taken = c.in_ok-snapshot.ensures.finds.judged pool are in
      let source = c.in_ok-source.ensures.finds.judged pool are in
      let clone = clone_of name source.0 taken.0 in
      subst (JudgesClone c.args.kept.now.dir origin name pool) (sym (err_is fell.result c.in_err-check_number.field-0.0 fell.ensures.1))
      (clone_is_new origin name pool source.0 taken.0 taken.2 taken.3 (ap (λ n. dataset_named n pool) (sym c.dataset.ensures) ∙ source.2)
      ∙ c.in_ok-check_new_dataset.ensures.checks.judged pool are clone refl ∙ c.in_err-check_number.ensures.judged (with_new clone pool) number);
}
