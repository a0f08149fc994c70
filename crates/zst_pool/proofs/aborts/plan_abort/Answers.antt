use Rattle.std.proofs.Common.{rules, ◌≡◌, ◌⊎◌, ℕ, true, [], inl, inr, ◌∙◌, sym, subst, Ok}
use Rattle.zst_model.specs.pools.Step.{committed, with_aborted, without_partial}
use Rattle.zst_model.specs.declared.refusals.plan_fault.PlanFault.{PlanFault}
use Rattle.zst_model.proofs.Results.{err_is}
use Rattle.zst_pool.specs.Plans.{IsLast, is_by_rows}
use Rattle.zst_pool.specs.Checks.{Judges, next_of}
use Rattle.zst_pool.proofs.CheckLemmas.{err_has}
use Rattle.zst_pool.proofs.aborts.plan_abort.Goals as goal

-- what the rows or the last number refuse
abbrev Refused : ℕ → PlanFault → Type 0
Refused number fault = (is_by_rows fault ≡ true) ⊎ IsLast number fault

pub returns-in_err-check_partial-clause-plans : goal.returns-in_err-check_partial-clause-plans
returns-in_err-check_partial-clause-plans c = record {
  number = search rules;
  refused = err_has (Refused c.args.kept.now.body.uber.number) c.from_residual.result c.in_err-check_partial.field-0.0 c.from_residual.ensures.1 (inl c.in_err-check_partial.ensures.checks.rows);
  judged = λ pool are number.
      let target = c.args.target.now in
      let fell = c.from_residual in
      subst (Judges (with_aborted [] target pool) (Ok (next_of (without_partial target pool)))) (sym (err_is fell.result c.in_err-check_partial.field-0.0 fell.ensures.1))
      (c.in_err-check_partial.ensures.checks.judged pool are (committed (without_partial target pool)));
}

pub returns-in_err-check_number-clause-plans : goal.returns-in_err-check_number-clause-plans
returns-in_err-check_number-clause-plans c = record {
  number = search rules;
  refused = err_has (Refused c.args.kept.now.body.uber.number) c.from_residual-in_err-check_number.result c.in_err-check_number.field-0.0 c.from_residual-in_err-check_number.ensures.1 (inr c.in_err-check_number.ensures.last);
  judged = λ pool are number.
      let target = c.args.target.now in
      let fell = c.from_residual-in_err-check_number in
      subst (Judges (with_aborted [] target pool) (Ok (next_of (without_partial target pool)))) (sym (err_is fell.result c.in_err-check_number.field-0.0 fell.ensures.1))
      (c.in_ok-check_partial.ensures.checks.judged pool are (committed (without_partial target pool)) ∙ c.in_err-check_number.ensures.judged (without_partial target pool) number);
}

pub returns-clause-plans : goal.returns-clause-plans
returns-clause-plans c = record {
  number = search rules;
  refused = search rules;
  judged = λ pool are number.
      let target = c.args.target.now in
      c.in_ok-check_partial.ensures.checks.judged pool are (committed (without_partial target pool)) ∙ c.in_ok-check_number.ensures.judged (without_partial target pool) number;
}
