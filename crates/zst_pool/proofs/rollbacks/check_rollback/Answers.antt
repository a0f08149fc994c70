use Rattle.std.proofs.Common.{rules, ◌≡◌, ◌∙◌, false, sym, subst}
use Rattle.zst_model.specs.declared.refusals.refusal.Refusal.{Refusal}
use Rattle.std.specs.Prelude.{Result}
use Rattle.zst_model.specs.pools.Step.{Stepped, newer_snapshots, unless_newer}
use Rattle.zst_model.proofs.Results.{err_is}
use Rattle.zst_dir.specs.declared.removal.Removal.{Removal}
use Rattle.zst_pool.specs.Checks.{Judges}
use Rattle.zst_pool.specs.Lineage.{AreGoing, if_rolls_back, newer_in_pool}
use Rattle.zst_pool.proofs.RollbackRows.{destroying_looks, keeping_looks, newer_go, same_dataset}
use Rattle.zst_pool.proofs.rollbacks.check_rollback.Goals as goal

pub returns-then-destroys-clause-checks : goal.returns-then-destroys-clause-checks
returns-then-destroys-clause-checks c = record {
  rows = c.check_unused.ensures.checks.rows;
  judged = λ pool are taken is rest.
      let rows = c.args.dir.now in
      let going : c.newer_than-going.result ≡ newer_in_pool taken = c.newer_than-going.ensures ∙ is in
      let gone = subst (λ (g : Removal). AreGoing g rows (newer_snapshots taken pool)) (sym going) (newer_go taken rows pool are) in
      subst (λ (definition : Result Stepped Refusal). Judges definition rest c.check_unused.result)
      (sym (destroying_looks c.args.destroys taken pool rest c.newer_than-going.result c.if-destroys.true going))
      (c.check_unused.ensures.checks.judged pool are (newer_snapshots taken pool) gone rest);
}

pub returns-in_err-check_no_partial-clause-checks : goal.returns-in_err-check_no_partial-clause-checks
returns-in_err-check_no_partial-clause-checks c = record {
  rows = search rules;
  judged = λ pool are taken is rest.
      let named = c.dataset.ensures ∙ same_dataset c.args.snapshot.now taken is in
      subst (Judges (if_rolls_back c.args.destroys taken pool rest) rest) (sym (err_is c.from_residual.result c.in_err-check_no_partial.field-0.0 c.from_residual.ensures.1))
      (keeping_looks c.args.destroys taken pool rest c.dataset.result c.if-destroys.false named ∙ c.in_err-check_no_partial.ensures.checks.judged pool are (unless_newer false taken pool rest));
}

pub returns-clause-checks : goal.returns-clause-checks
returns-clause-checks c = record {
  rows = c.check_newer.ensures.checks.rows;
  judged = λ pool are taken is rest.
      let named = c.dataset.ensures ∙ same_dataset c.args.snapshot.now taken is in
      subst (λ (definition : Result Stepped Refusal). Judges definition rest c.check_newer.result)
      (sym (keeping_looks c.args.destroys taken pool rest c.dataset.result c.if-destroys.false named ∙ c.in_ok-check_no_partial.ensures.checks.judged pool are (unless_newer false taken pool rest)))
      (c.check_newer.ensures.checks.judged pool are taken (c.newer_than-going.ensures ∙ is) rest);
}
