use Rattle.std.proofs.Common.{rules, ◌∙◌, sym, ap}
use Rattle.zst_model.specs.pools.Step.{busy_bookmark, busy_snapshot, unless_there}
use Rattle.zst_pool.proofs.RollbackRows.{newer_by_rows, nothing_goes, snapshot_by_rows}
use Rattle.zst_pool.proofs.rollbacks.check_newer.Goals as goal

pub returns-in-Some-clause-checks : goal.returns-in-Some-clause-checks
returns-in-Some-clause-checks c = record {
  rows = search rules;
  judged = λ pool are taken is rest.
      let rows = c.args.dir.now in
      let going = c.args.going.now in
      newer_by_rows taken rows pool are going rest is
      ∙ ap (λ o. unless_there busy_bookmark o (unless_there busy_snapshot (snapshot_by_rows going rows) rest)) (sym c.first_going.ensures ∙ c.in-Some.is);
}

pub returns-in-Some-least_going-clause-checks : goal.returns-in-Some-least_going-clause-checks
returns-in-Some-least_going-clause-checks c = record {
  rows = search rules;
  judged = λ pool are taken is rest.
      let rows = c.args.dir.now in
      let going = c.args.going.now in
      newer_by_rows taken rows pool are going rest is
      ∙ ap (λ o. unless_there busy_bookmark o (unless_there busy_snapshot (snapshot_by_rows going rows) rest)) (sym c.first_going.ensures ∙ c.in_default.is)
      ∙ ap (λ o. unless_there busy_snapshot o rest) (sym c.least_going.ensures ∙ c.in-Some-least_going.is);
}

pub returns-clause-unused : goal.returns-clause-unused
returns-clause-unused c = nothing_goes c.args.going.now c.args.dir.now (sym c.least_going.ensures ∙ c.in_default-least_going.is)

pub returns-clause-checks : goal.returns-clause-checks
returns-clause-checks c = record {
  rows = search rules;
  judged = λ pool are taken is rest.
      let rows = c.args.dir.now in
      let going = c.args.going.now in
      newer_by_rows taken rows pool are going rest is
      ∙ ap (λ o. unless_there busy_bookmark o (unless_there busy_snapshot (snapshot_by_rows going rows) rest)) (sym c.first_going.ensures ∙ c.in_default.is)
      ∙ ap (λ o. unless_there busy_snapshot o rest) (sym c.least_going.ensures ∙ c.in_default-least_going.is);
}
