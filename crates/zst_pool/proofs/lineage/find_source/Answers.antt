use Rattle.std.proofs.Common.{rules, ◌≡◌, ◌∙◌, sym, ap, subst, List, is_some, get_or}
use Rattle.zst_model.specs.refusals.Refusal.{refusal_of}
use Rattle.zst_model.specs.pools.Pool.{dataset_named}
use Rattle.zst_model.proofs.Options.{none_there}
use Rattle.zst_dir.specs.RowNames.{StandAlike}
use Rattle.zst_dir.specs.declared.rows.Dataset.{Dataset}
use Rattle.zst_dir.proofs.NamedRows.{dataset_is_there}
use Rattle.zst_pool.proofs.CheckLemmas.{dataset_at}
use Rattle.zst_pool.proofs.lineage.find_source.Goals as goal

pub returns-in-None-clause-finds : goal.returns-in-None-clause-finds
returns-in-None-clause-finds c = record {
  rows = search rules;
  judged = λ pool are.
      let name = c.args.name.now in (
        none_there (dataset_named name pool) (sym (dataset_is_there c.args.dir.now pool are name) ∙ ap is_some (sym c.dataset.ensures ∙ c.in-None.is)),
        ap refusal_of c.no_such.ensures,
      );
}

pub returns-in-Some-clause-finds : goal.returns-in-Some-clause-finds
returns-in-Some-clause-finds c = record {
  rows = search rules;
  judged = λ pool are.
      let rows = c.args.dir.now in
      let place = c.in-Some.place in
      let row = c.index-datasets-place.result in
      let here : get_or rows.datasets place row ≡ row = ap (λ (xs : List Dataset). get_or xs place row) (sym c.datasets-datasets.ensures.same) ∙ sym c.index-datasets-place.is in
      let found = dataset_at rows pool are c.args.name.now place row (sym c.dataset.ensures ∙ c.in-Some.is) in
      (found.0, subst (λ (r : Dataset). StandAlike rows.datasets pool.datasets r found.0) here found.2, found.1);
}
