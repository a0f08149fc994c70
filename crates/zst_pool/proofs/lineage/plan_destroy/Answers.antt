use Rattle.std.proofs.Common.{rules, ◌≡◌, ◌⊎◌, ℕ, true, inl, inr, ◌∙◌, sym, subst}
use Rattle.zst_model.specs.declared.refusals.plan_fault.PlanFault.{PlanFault}
use Rattle.zst_model.specs.pools.Step.{committed}
use Rattle.zst_model.proofs.Results.{err_is}
use Rattle.zst_pool.specs.Lineage.{JudgesDestroyed, pool_without}
use Rattle.zst_pool.specs.Plans.{IsLast, is_by_rows}
use Rattle.zst_pool.proofs.CheckLemmas.{err_has}
use Rattle.zst_pool.proofs.LineageRows.{same_number}
use Rattle.zst_pool.proofs.lineage.plan_destroy.Goals as goal

-- what the rows or the last number refuse
abbrev Refused : ℕ → PlanFault → Type 0
Refused number fault = (is_by_rows fault ≡ true) ⊎ IsLast number fault

pub returns-in_err-going-clause-plans : goal.returns-in_err-going-clause-plans
returns-in_err-going-clause-plans c = record {
  number = search rules;
  refused = err_has (Refused c.args.kept.now.body.uber.number) c.from_residual.result c.in_err-going.field-0.0 c.from_residual.ensures.1 (inl c.in_err-going.ensures.finds.rows);
  judged = λ pool are number.
      subst (JudgesDestroyed c.args.name pool) (sym (err_is c.from_residual.result c.in_err-going.field-0.0 c.from_residual.ensures.1)) (c.in_err-going.ensures.finds.judged pool are);
}

pub returns-in_err-check_unused-clause-plans : goal.returns-in_err-check_unused-clause-plans
returns-in_err-check_unused-clause-plans c = record {
  number = search rules;
  refused = err_has (Refused c.args.kept.now.body.uber.number) c.from_residual-in_err-check_unused.result c.in_err-check_unused.field-0.0 c.from_residual-in_err-check_unused.ensures.1 (inl c.in_err-check_unused.ensures.checks.rows);
  judged = λ pool are number.
      let fell = c.from_residual-in_err-check_unused in
      let found = c.in_ok-going.ensures.finds.judged pool are in
      subst (JudgesDestroyed c.args.name pool) (sym (err_is fell.result c.in_err-check_unused.field-0.0 fell.ensures.1))
      (found.2 ∙ c.in_err-check_unused.ensures.checks.judged pool are found.0 found.1 (committed (pool_without c.in_ok-going.going pool)));
}

pub returns-in_err-check_number-clause-plans : goal.returns-in_err-check_number-clause-plans
returns-in_err-check_number-clause-plans c = record {
  number = search rules;
  refused = err_has (Refused c.args.kept.now.body.uber.number) c.from_residual-in_err-check_number.result c.in_err-check_number.field-0.0 c.from_residual-in_err-check_number.ensures.1 (inr c.in_err-check_number.ensures.last);
  judged = λ pool are number.
      let fell = c.from_residual-in_err-check_number in
      let going = c.in_ok-going.going in
      let found = c.in_ok-going.ensures.finds.judged pool are in
      subst (JudgesDestroyed c.args.name pool) (sym (err_is fell.result c.in_err-check_number.field-0.0 fell.ensures.1))
      (found.2 ∙ c.in_ok-check_unused.ensures.checks.judged pool are found.0 found.1 (committed (pool_without going pool)) ∙ c.in_err-check_number.ensures.judged (pool_without going pool) (same_number going pool ∙ number));
}

pub returns-clause-plans : goal.returns-clause-plans
returns-clause-plans c = record {
  number = search rules;
  refused = search rules;
  judged = λ pool are number.
      let going = c.in_ok-going.going in
      let found = c.in_ok-going.ensures.finds.judged pool are in
      found.2 ∙ c.in_ok-check_unused.ensures.checks.judged pool are found.0 found.1 (committed (pool_without going pool)) ∙ c.in_ok-check_number.ensures.judged (pool_without going pool) (same_number going pool ∙ number);
}
