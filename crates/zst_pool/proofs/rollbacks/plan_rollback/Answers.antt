use Rattle.std.proofs.Common.{rules, ◌≡◌, ◌⊎◌, ℕ, true, inl, inr, ◌∙◌, sym, subst}
use Rattle.zst_model.specs.pools.Step.{committed, rolled_back}
use Rattle.zst_dir.specs.RowNames.{NamesSnapshot}
use Rattle.zst_model.specs.declared.refusals.plan_fault.PlanFault.{PlanFault}
use Rattle.zst_model.proofs.Results.{err_is}
use Rattle.zst_pool.specs.Plans.{IsLast, is_by_rows}
use Rattle.zst_pool.specs.Lineage.{JudgesRollback}
use Rattle.zst_pool.proofs.CheckLemmas.{err_has}
use Rattle.zst_dir.proofs.Matches.{Match-alike}
use Rattle.zst_pool.proofs.RollbackRows.{newer_is, rolls_to}
use Rattle.zst_pool.proofs.rollbacks.plan_rollback.Goals as goal

-- what the rows or the last number refuse
abbrev Refused : ℕ → PlanFault → Type 0
Refused number fault = (is_by_rows fault ≡ true) ⊎ IsLast number fault

pub returns-in_err-check_rollback-clause-plans : goal.returns-in_err-check_rollback-clause-plans
returns-in_err-check_rollback-clause-plans c = record {
  number = search rules;
  refused = err_has (Refused c.args.kept.now.body.uber.number) c.from_residual-in_err-check_rollback.result c.in_err-check_rollback.field-0.0 c.from_residual-in_err-check_rollback.ensures.1 (inl c.in_err-check_rollback.ensures.checks.rows);
  judged = λ pool are number.
      let rows = c.args.kept.now.dir in
      let name = c.args.name.now in
      let row = c.in_ok-snapshot.snapshot.now in
      let fell = c.from_residual-in_err-check_rollback in
      let found = c.in_ok-snapshot.ensures.finds.judged pool are in
      let named = Match-alike NamesSnapshot rows.snapshots pool.snapshots row found.0 are.snapshots found.1 in
      subst (JudgesRollback rows c.args.destroys name pool) (sym (err_is fell.result c.in_err-check_rollback.field-0.0 fell.ensures.1))
      (rolls_to c.args.destroys name pool found.0 found.2
      ∙ c.in_err-check_rollback.ensures.checks.judged pool are found.0 (newer_is row found.0 named) (committed (rolled_back found.0 pool)));
}

pub returns-in_err-check_number-clause-plans : goal.returns-in_err-check_number-clause-plans
returns-in_err-check_number-clause-plans c = record {
  number = search rules;
  refused = err_has (Refused c.args.kept.now.body.uber.number) c.from_residual-in_err-check_number.result c.in_err-check_number.field-0.0 c.from_residual-in_err-check_number.ensures.1 (inr c.in_err-check_number.ensures.last);
  judged = λ pool are number.
      let rows = c.args.kept.now.dir in
      let name = c.args.name.now in
      let row = c.in_ok-snapshot.snapshot.now in
      let fell = c.from_residual-in_err-check_number in
      let found = c.in_ok-snapshot.ensures.finds.judged pool are in
      let named = Match-alike NamesSnapshot rows.snapshots pool.snapshots row found.0 are.snapshots found.1 in
      subst (JudgesRollback rows c.args.destroys name pool) (sym (err_is fell.result c.in_err-check_number.field-0.0 fell.ensures.1))
      (rolls_to c.args.destroys name pool found.0 found.2
      ∙ c.in_ok-check_rollback.ensures.checks.judged pool are found.0 (newer_is row found.0 named) (committed (rolled_back found.0 pool))
      ∙ c.in_err-check_number.ensures.judged (rolled_back found.0 pool) number);
}

pub returns-clause-plans : goal.returns-clause-plans
returns-clause-plans c = record {
  number = search rules;
  refused = search rules;
  judged = λ pool are number.
      let rows = c.args.kept.now.dir in
      let row = c.in_ok-snapshot.snapshot.now in
      let found = c.in_ok-snapshot.ensures.finds.judged pool are in
      let named = Match-alike NamesSnapshot rows.snapshots pool.snapshots row found.0 are.snapshots found.1 in (
        found.0,
        found.1,
        rolls_to c.args.destroys c.args.name.now pool found.0 found.2
            ∙ c.in_ok-check_rollback.ensures.checks.judged pool are found.0 (newer_is row found.0 named) (committed (rolled_back found.0 pool))
            ∙ c.in_ok-check_number.ensures.judged (rolled_back found.0 pool) number,
      );
}

pub returns-in_err-snapshot-clause-plans : goal.returns-in_err-snapshot-clause-plans
returns-in_err-snapshot-clause-plans c = record {
  number = search rules;
  refused = err_has (Refused c.args.kept.now.body.uber.number) c.from_residual.result c.in_err-snapshot.field-0.0 c.from_residual.ensures.1 (inl c.in_err-snapshot.ensures.finds.rows);
  judged = search rules;
}
