use Rattle.std.proofs.Common.{rules, ◌≡◌, ◌∙◌, Some, sym, ap, List, ℕ}
use Rattle.std.specs.List.{position}
use Rattle.std.specs.Str.{bytes_eq}
use Rattle.zst_model.specs.pools.Pool.{dataset_named, dataset_of_snapshot}
use Rattle.zst_names.specs.Names.{dataset_of}
use Rattle.zst_plan.specs.Places.{StandsAt}
use Rattle.zst_plan.specs.Sources.{FoundDataset}
use Rattle.zst_plan.proofs.LookupLemmas.{dataset_row, datasets_find, rows_found}
use Rattle.zst_plan.proofs.lookups.dataset_of.Goals as goal

pub returns : goal.returns
returns c = λ pool later are names.
    let rows = c.args.dir.now in
    let name = dataset_of_snapshot later in
    let same : c.dataset.result ≡ name = c.dataset.ensures ∙ ap (λ (n : List ℕ). dataset_of 64 n) (sym names.name) in
    rows_found (StandsAt rows.datasets pool.datasets) FoundDataset c.dataset-2.result c.map.result (dataset_named name pool)
    (λ place row other at is. dataset_row rows pool are place row (Some other) (search rules) is) c.map.ensures.cases
    (datasets_find rows pool are name c.dataset-2.result (c.dataset-2.ensures ∙ ap (λ (n : List ℕ). position (λ dataset. bytes_eq dataset.name n) rows.datasets) same))
