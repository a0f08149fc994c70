use Rattle.std.proofs.Common.{rules, ◌∙◌, sym, ap, Err, ℕ, List}
use Rattle.zst_model.specs.pools.Step.{no_partial}
use Rattle.zst_pool.proofs.AbortedRows.{partial_goes, partial_is_absent}
use Rattle.zst_pool.proofs.aborts.check_partial.Goals as goal

pub returns-then-not-has_partial-clause-checks : goal.returns-then-not-has_partial-clause-checks
returns-then-not-has_partial-clause-checks c = record {
  rows = search rules;
  judged = λ pool are rest.
      partial_is_absent c.args.dir.now pool are c.args.target.now rest (sym c.has_partial.ensures ∙ c.if-not-has_partial.true)
      ∙ ap (λ (n : List ℕ). Err (no_partial n)) (sym c.duplicate.ensures);
}

pub returns-clause-checks : goal.returns-clause-checks
returns-clause-checks c = record {
  rows = search rules;
  judged = λ pool are rest. partial_goes c.args.dir.now pool are c.args.target.now rest (sym c.has_partial.ensures ∙ c.if-not-has_partial.false);
}
