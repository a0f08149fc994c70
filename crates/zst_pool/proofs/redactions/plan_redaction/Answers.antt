use Rattle.std.proofs.Common.{◌≡◌, ◌∙◌, ℕ, true, List, Err, sym, ap, subst}
use Rattle.zst_model.specs.declared.refusals.plan_fault.PlanFault.{PlanFault}
use Rattle.zst_model.specs.declared.refusals.refusal.Refusal.{Refusal}
use Rattle.zst_model.specs.pools.Step.{redaction_of}
use Rattle.zst_model.specs.refusals.Refusal.{refusal_of}
use Rattle.zst_model.proofs.Results.{err_is}
use Rattle.zst_dir.specs.RowNames.{NamesSnapshot}
use Rattle.zst_dir.proofs.Matches.{Match-alike}
use Rattle.zst_pool.specs.Plans.{is_by_rows}
use Rattle.zst_pool.specs.Redactions.{JudgesRedaction, if_redacts, if_short}
use Rattle.zst_pool.proofs.CheckLemmas.{err_has}
use Rattle.zst_pool.proofs.RedactionRows.{redacts_absent, redacts_found, redacts_none}
use Rattle.zst_pool.proofs.redactions.plan_redaction.Goals as goal

pub returns-in_err-row-clause-checks : goal.returns-in_err-row-clause-checks
returns-in_err-row-clause-checks c =
    let of = c.args.snapshot.now in
    let name = c.args.name.now in
    let words = c.args.redactions.now in
    let fell = c.from_residual in
    let fault = c.in_err-row.field-0.0 in
    record {
      rows = err_has (λ (f : PlanFault). is_by_rows f ≡ true) fell.result fault fell.ensures.1 c.in_err-row.ensures.finds.rows;
      judged = λ pool are.
          let missed = c.in_err-row.ensures.finds.judged pool are in
          subst (JudgesRedaction c.args.dir.now of name words pool) (sym (err_is fell.result fault fell.ensures.1))
          (redacts_none of name words pool missed.0 ∙ ap (λ (r : Refusal). Err r) (sym missed.1));
    }

pub returns-in_err-check_each-clause-checks : goal.returns-in_err-check_each-clause-checks
returns-in_err-check_each-clause-checks c =
    let of = c.args.snapshot.now in
    let name = c.args.name.now in
    let words = c.args.redactions.now in
    let fell = c.from_residual-in_err-check_each in
    let fault = c.in_err-check_each.field-0.0 in
    record {
      rows = err_has (λ (f : PlanFault). is_by_rows f ≡ true) fell.result fault fell.ensures.1 c.in_err-check_each.ensures.checks.rows;
      judged = λ pool are.
          let taken = c.in_ok-row.ensures.finds.judged pool are in
          subst (JudgesRedaction c.args.dir.now of name words pool) (sym (err_is fell.result fault fell.ensures.1))
          (redacts_absent of name words pool taken.0 taken.2 (refusal_of fault) (c.in_err-check_each.ensures.checks.judged pool are));
    }

pub returns-in_err-check_redaction-clause-checks : goal.returns-in_err-check_redaction-clause-checks
returns-in_err-check_redaction-clause-checks c =
    let rows = c.args.dir.now in
    let of = c.args.snapshot.now in
    let name = c.args.name.now in
    let words = c.args.redactions.now in
    let row = c.in_ok-row.row.now in
    let fell = c.from_residual-in_err-check_redaction in
    let fault = c.in_err-check_redaction.field-0.0 in
    record {
      rows = err_has (λ (f : PlanFault). is_by_rows f ≡ true) fell.result fault fell.ensures.1 c.in_err-check_redaction.ensures.rows;
      judged = λ pool are.
          let taken = c.in_ok-row.ensures.finds.judged pool are in
          let found = c.in_ok-check_each.ensures.checks.judged pool are in
          let named = Match-alike NamesSnapshot rows.snapshots pool.snapshots row taken.0 are.snapshots taken.1 in
          let rest = if_short (redaction_of name taken.0 found.0) pool in
          subst (JudgesRedaction rows of name words pool) (sym (err_is fell.result fault fell.ensures.1))
          (redacts_found of name words pool taken.0 taken.2 found.0 taken.3 found.1
          ∙ ap (λ (n : List ℕ). if_redacts n name taken.0 found.0 pool rest) (sym c.in_ok-row.ensures.there.1)
          ∙ c.in_err-check_redaction.ensures.judged pool taken.0 found.0 rest are named found.1);
    }

pub returns-clause-checks : goal.returns-clause-checks
returns-clause-checks c =
    let rows = c.args.dir.now in
    let of = c.args.snapshot.now in
    let name = c.args.name.now in
    let words = c.args.redactions.now in
    let row = c.in_ok-row.row.now in
    record {
      rows = tt;
      judged = λ pool are.
          let taken = c.in_ok-row.ensures.finds.judged pool are in
          let found = c.in_ok-check_each.ensures.checks.judged pool are in
          let named = Match-alike NamesSnapshot rows.snapshots pool.snapshots row taken.0 are.snapshots taken.1 in
          let rest = if_short (redaction_of name taken.0 found.0) pool in
          record {
            taken = taken.0;
            redactions = found.0;
            place = taken.1;
            each = found.2;
            there = taken.2;
            found = found.1;
            left =
                redacts_found of name words pool taken.0 taken.2 found.0 taken.3 found.1
                ∙ ap (λ (n : List ℕ). if_redacts n name taken.0 found.0 pool rest) (sym c.in_ok-row.ensures.there.1)
                ∙ c.in_ok-check_redaction.ensures.judged pool taken.0 found.0 rest are named found.1;
          };
    }
