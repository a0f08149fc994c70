use Rattle.std.proofs.Common.{rules, sym, ap, ◌∙◌}
use Rattle.zst_model.specs.pools.Step.{busy_clone, busy_partial, unless_there}
use Rattle.zst_pool.proofs.DestroyedRows.{clone_by_rows, held_by_rows, nothing_holds}
use Rattle.zst_pool.proofs.lineage.check_unused.Goals as goal

pub returns-in-Some-clause-checks : goal.returns-in-Some-clause-checks
returns-in-Some-clause-checks c = record {
  rows = search rules;
  judged = λ pool are gone going rest.
      let rows = c.args.dir.now in
      held_by_rows rows pool are c.args.going.now gone rest going
      ∙ ap (λ o. unless_there busy_partial o (unless_there busy_clone (clone_by_rows c.args.going.now rows) rest)) (sym c.holding_partial.ensures ∙ c.in-Some.is);
}

pub returns-in-Some-holding_clone-clause-checks : goal.returns-in-Some-holding_clone-clause-checks
returns-in-Some-holding_clone-clause-checks c = record {
  rows = search rules;
  judged = λ pool are gone going rest.
      let rows = c.args.dir.now in
      held_by_rows rows pool are c.args.going.now gone rest going
      ∙ ap (λ o. unless_there busy_partial o (unless_there busy_clone (clone_by_rows c.args.going.now rows) rest)) (sym c.holding_partial.ensures ∙ c.in_default.is)
      ∙ ap (λ o. unless_there busy_clone o rest) (sym c.holding_clone.ensures ∙ c.in-Some-holding_clone.is);
}

pub returns-clause-unused : goal.returns-clause-unused
returns-clause-unused c =
    nothing_holds c.args.going.now c.args.dir.now (sym c.holding_partial.ensures ∙ c.in_default.is) (sym c.holding_clone.ensures ∙ c.in_default-holding_clone.is)

pub returns-clause-checks : goal.returns-clause-checks
returns-clause-checks c = record {
  rows = search rules;
  judged = λ pool are gone going rest.
      let rows = c.args.dir.now in
      held_by_rows rows pool are c.args.going.now gone rest going
      ∙ ap (λ o. unless_there busy_partial o (unless_there busy_clone (clone_by_rows c.args.going.now rows) rest)) (sym c.holding_partial.ensures ∙ c.in_default.is)
      ∙ ap (λ o. unless_there busy_clone o rest) (sym c.holding_clone.ensures ∙ c.in_default-holding_clone.is);
}
