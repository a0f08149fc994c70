use Rattle.std.proofs.Common.{rules, ◌≡◌, ◌∙◌, sym, ap, subst, true, List, [], is_some, None, Err, get_or}
use Rattle.std.specs.Str.{bytes_eq}
use Rattle.std.proofs.lemmas.List.Quantifiers.{position-Some}
use Rattle.std.proofs.lemmas.Slice.Eq.{bytes_eq-Decides}
use Rattle.zst_model.specs.refusals.Refusal.{refusal_of}
use Rattle.zst_tree.specs.Sets.{no_objects}
use Rattle.zst_dir.specs.RowNames.{StandAlike}
use Rattle.zst_dir.specs.declared.rows.Dataset.{Dataset}
use Rattle.zst_dir.proofs.NamedRows.{dataset_is_there}
use Rattle.zst_pool.proofs.CheckLemmas.{partial_is_there, dataset_at, dataset_is_absent, dataset_is_busy, dataset_is_open}
use Rattle.zst_pool.proofs.checks.open_dataset.Goals as goal

pub returns-in-None-clause-finds : goal.returns-in-None-clause-finds
returns-in-None-clause-finds c = record {
  rows = search rules;
  judged = λ pool are next.
      let rows = c.args.dir.now in
      let name = c.args.name.now in
      dataset_is_absent rows pool are name next
      (sym (dataset_is_there rows pool are name) ∙ ap is_some (sym c.dataset.ensures ∙ c.in-None.is))
      ∙ ap (λ fault. Err (refusal_of fault)) (sym c.no_such.ensures);
}

pub returns-then-has_partial-clause-finds : goal.returns-then-has_partial-clause-finds
returns-then-has_partial-clause-finds c = record {
  rows = search rules;
  judged = λ pool are next.
      let rows = c.args.dir.now in
      let name = c.args.name.now in
      let none : Dataset = record { name = []; kind = 0; origin = None; head = no_objects; redact = [] } in
      let found = dataset_at rows pool are name c.in-Some.place none (sym c.dataset.ensures ∙ c.in-Some.is) in
      dataset_is_busy rows pool are name next found.0 found.1
      (sym (partial_is_there rows pool are name) ∙ sym c.has_partial.ensures ∙ c.if-has_partial.true)
      ∙ ap (λ fault. Err (refusal_of fault)) (sym c.busy_partial.ensures);
}

pub returns-clause-there : goal.returns-clause-there
returns-clause-there c =
    let rows = c.args.dir.now in
    let name = c.args.name.now in
    let place = c.in-Some.place in
    let row = c.index-datasets-place.result in
    let here : get_or rows.datasets place row ≡ row = ap (λ (xs : List Dataset). get_or xs place row) (sym c.datasets-datasets.ensures.same) ∙ sym c.index-datasets-place.is in
    let at = position-Some (λ (dataset : Dataset). bytes_eq dataset.name name) rows.datasets place row (sym c.dataset.ensures ∙ c.in-Some.is) in
    let named : bytes_eq row.name name ≡ true = ap (λ (dataset : Dataset). bytes_eq dataset.name name) (sym here) ∙ at.1 in
    ((place, at.0, here), (bytes_eq-Decides row.name name).0 named)

pub returns-clause-finds : goal.returns-clause-finds
returns-clause-finds c = record {
  rows = search rules;
  judged = λ pool are.
      let rows = c.args.dir.now in
      let name = c.args.name.now in
      let place = c.in-Some.place in
      let row = c.index-datasets-place.result in
      let here : get_or rows.datasets place row ≡ row = ap (λ (xs : List Dataset). get_or xs place row) (sym c.datasets-datasets.ensures.same) ∙ sym c.index-datasets-place.is in
      let found = dataset_at rows pool are name place row (sym c.dataset.ensures ∙ c.in-Some.is) in (
        found.0,
        subst (λ (r : Dataset). StandAlike rows.datasets pool.datasets r found.0) here found.2,
        λ next. dataset_is_open rows pool are name next found.0 found.1
            (sym (partial_is_there rows pool are name) ∙ sym c.has_partial.ensures ∙ c.if-has_partial.false),
      );
}
