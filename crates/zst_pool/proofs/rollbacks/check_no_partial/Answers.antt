use Rattle.std.proofs.Common.{rules, ◌∙◌, sym, ap, Err}
use Rattle.zst_model.specs.refusals.Refusal.{refusal_of}
use Rattle.zst_pool.proofs.RollbackRows.{partial_is_free, partial_is_held}
use Rattle.zst_pool.proofs.rollbacks.check_no_partial.Goals as goal

pub returns-then-has_partial : goal.returns-then-has_partial
returns-then-has_partial c = record {
  checks = record {
    rows = search rules;
    judged = λ pool are rest.
        partial_is_held c.args.dir.now pool are c.args.name.now rest (sym c.has_partial.ensures ∙ c.if-has_partial.true) ∙ ap (λ fault. Err (refusal_of fault)) (sym c.busy_partial.ensures);
  };
}

pub returns : goal.returns
returns c = record {
  checks = record {
    rows = search rules;
    judged = λ pool are rest. partial_is_free c.args.dir.now pool are c.args.name.now rest (sym c.has_partial.ensures ∙ c.if-has_partial.false);
  };
}
