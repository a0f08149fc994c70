use Rattle.std.proofs.Common.{rules, ◌∙◌, sym, ap, is_some, List, length, Err, arith}
use Rattle.zst_model.specs.pools.Step.{exists_already}
use Rattle.zst_model.specs.declared.refusals.subjects.Name.TheVariants as names
use Rattle.zst_dir.specs.declared.rows.Partial.{Partial}
use Rattle.zst_dir.specs.declared.rows.Snapshot.{Snapshot}
use Rattle.zst_dir.proofs.Lookups.{no_snapshot}
use Rattle.zst_dir.proofs.NamedRows.{snapshot_is_there}
use Rattle.zst_pool.proofs.CheckLemmas.{snapshots_are_counted, snapshot_is_taken, snapshots_are_many, snapshot_is_new}
use Rattle.zst_pool.proofs.checks.check_new_snapshot.Goals as goal

pub returns-then-is_some-clause-checks : goal.returns-then-is_some-clause-checks
returns-then-is_some-clause-checks c = record {
  rows = search rules;
  judged = λ pool are rest.
      let name = c.args.name.now in
      let found = ap is_some (sym c.snapshot.ensures) ∙ sym c.is_some.ensures ∙ c.if-is_some.true in
      snapshot_is_taken c.args.dir.now pool are name rest (sym (snapshot_is_there c.args.dir.now pool are name) ∙ found)
      ∙ ap (λ (n : List _). Err (exists_already (names.Snapshot n))) (sym c.duplicate.ensures);
}

pub returns-then-snapshots-partials-ge-MOST_SNAPSHOTS-clause-checks : goal.returns-then-snapshots-partials-ge-MOST_SNAPSHOTS-clause-checks
returns-then-snapshots-partials-ge-MOST_SNAPSHOTS-clause-checks c = record {
  rows = search rules;
  judged = λ pool are rest.
      let name = c.args.name.now in
      let found = ap is_some (sym c.snapshot.ensures) ∙ sym c.is_some.ensures ∙ c.if-is_some.false in
      let count = snapshots_are_counted c.args.dir.now pool are in
      snapshots_are_many c.args.dir.now pool are name rest (sym (snapshot_is_there c.args.dir.now pool are name) ∙ found)
      (omega (arith, count, ap (λ (xs : List Snapshot). length xs) c.snapshots.ensures, ap (λ (xs : List Partial). length xs) c.partials.ensures, c.if-snapshots-partials-ge-MOST_SNAPSHOTS.true));
}

pub returns-clause-absent : goal.returns-clause-absent
returns-clause-absent c =
    no_snapshot c.args.dir.now c.args.name.now (ap is_some (sym c.snapshot.ensures) ∙ sym c.is_some.ensures ∙ c.if-is_some.false)

pub returns-clause-checks : goal.returns-clause-checks
returns-clause-checks c = record {
  rows = search rules;
  judged = λ pool are rest.
      let name = c.args.name.now in
      let found = ap is_some (sym c.snapshot.ensures) ∙ sym c.is_some.ensures ∙ c.if-is_some.false in
      let count = snapshots_are_counted c.args.dir.now pool are in
      snapshot_is_new c.args.dir.now pool are name rest (sym (snapshot_is_there c.args.dir.now pool are name) ∙ found)
      (omega (arith, count, ap (λ (xs : List Snapshot). length xs) c.snapshots.ensures, ap (λ (xs : List Partial). length xs) c.partials.ensures, c.if-snapshots-partials-ge-MOST_SNAPSHOTS.false));
}
