use Rattle.std.proofs.Common.{rules, ◌∙◌, sym, ap, is_some, List, ℕ, Err, arith}
use Rattle.zst_model.specs.refusals.Refusal.{refusal_of}
use Rattle.zst_model.specs.declared.refusals.subjects.Name.TheVariants as names
use Rattle.zst_model.specs.pools.Pool.{dataset_named, partial_of}
use Rattle.zst_model.specs.pools.Step.{exists_already}
use Rattle.zst_pool.proofs.CheckLemmas.{partial_is_there, dataset_is_taken, dataset_is_partial, datasets_are_many, dataset_is_new}
use Rattle.zst_pool.proofs.checks.check_new_dataset.Goals as goal
use Rattle.zst_dir.proofs.Lookups.{no_dataset}
use Rattle.zst_dir.proofs.NamedRows.{dataset_is_there}

pub returns-then-is_some-clause-checks : goal.returns-then-is_some-clause-checks
returns-then-is_some-clause-checks c = record {
  rows = search rules;
  judged = λ pool are dataset same.
      let name = c.args.name.now in
      let found = ap is_some (sym c.dataset.ensures) ∙ sym c.is_some.ensures ∙ c.if-is_some.true in
      let there = ap (λ (n : List ℕ). is_some (dataset_named n pool)) same ∙ sym (dataset_is_there c.args.dir.now pool are name) ∙ found in
      dataset_is_taken c.args.dir.now pool are dataset there ∙ ap (λ (n : List ℕ). Err (exists_already (names.Dataset n))) same
      ∙ ap (λ fault. Err (refusal_of fault)) (sym c.exists_already.ensures);
}

pub returns-then-has_partial-clause-checks : goal.returns-then-has_partial-clause-checks
returns-then-has_partial-clause-checks c = record {
  rows = search rules;
  judged = λ pool are dataset same.
      let name = c.args.name.now in
      let found = ap is_some (sym c.dataset.ensures) ∙ sym c.is_some.ensures ∙ c.if-is_some.false in
      let absent = ap (λ (n : List ℕ). is_some (dataset_named n pool)) same ∙ sym (dataset_is_there c.args.dir.now pool are name) ∙ found in
      let busy = ap (λ (n : List ℕ). is_some (partial_of n pool)) same ∙ sym (partial_is_there c.args.dir.now pool are name) ∙ sym c.has_partial.ensures ∙ c.if-has_partial.true in
      dataset_is_partial c.args.dir.now pool are dataset absent busy ∙ ap (λ (n : List ℕ). Err (exists_already (names.Dataset n))) same
      ∙ ap (λ fault. Err (refusal_of fault)) (sym c.exists_already-then-has_partial.ensures);
}

pub returns-then-count_datasets-ge-MOST_DATASETS-clause-checks : goal.returns-then-count_datasets-ge-MOST_DATASETS-clause-checks
returns-then-count_datasets-ge-MOST_DATASETS-clause-checks c = record {
  rows = search rules;
  judged = λ pool are dataset same.
      let name = c.args.name.now in
      let found = ap is_some (sym c.dataset.ensures) ∙ sym c.is_some.ensures ∙ c.if-is_some.false in
      let absent = ap (λ (n : List ℕ). is_some (dataset_named n pool)) same ∙ sym (dataset_is_there c.args.dir.now pool are name) ∙ found in
      let free = ap (λ (n : List ℕ). is_some (partial_of n pool)) same ∙ sym (partial_is_there c.args.dir.now pool are name) ∙ sym c.has_partial.ensures ∙ c.if-has_partial.false in
      let count = c.count_datasets.ensures pool are in
      datasets_are_many c.args.dir.now pool are dataset absent free (omega (arith, count, c.if-count_datasets-ge-MOST_DATASETS.true));
}

pub returns-clause-absent : goal.returns-clause-absent
returns-clause-absent c =
    no_dataset c.args.dir.now c.args.name.now (ap is_some (sym c.dataset.ensures) ∙ sym c.is_some.ensures ∙ c.if-is_some.false)

pub returns-clause-checks : goal.returns-clause-checks
returns-clause-checks c = record {
  rows = search rules;
  judged = λ pool are dataset same.
      let name = c.args.name.now in
      let found = ap is_some (sym c.dataset.ensures) ∙ sym c.is_some.ensures ∙ c.if-is_some.false in
      let absent = ap (λ (n : List ℕ). is_some (dataset_named n pool)) same ∙ sym (dataset_is_there c.args.dir.now pool are name) ∙ found in
      let free = ap (λ (n : List ℕ). is_some (partial_of n pool)) same ∙ sym (partial_is_there c.args.dir.now pool are name) ∙ sym c.has_partial.ensures ∙ c.if-has_partial.false in
      let count = c.count_datasets.ensures pool are in
      dataset_is_new c.args.dir.now pool are dataset absent free (omega (arith, count, c.if-count_datasets-ge-MOST_DATASETS.false));
}
