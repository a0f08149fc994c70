-- What is found and counted among rows is what is found and counted in the pool that they name.
use Rattle.std.proofs.Common.{◌≡◌, ℕ, ◌+◌, not, List, length, is_some, sym, ap, ◌∙◌}
use Rattle.std.specs.List.{count_by, position}
use Rattle.std.specs.Option.{is_none}
use Rattle.std.specs.Str.{bytes_eq}
use Rattle.zst_model.specs.pools.Pool.{Pool, dataset_named, snapshot_named}
use Rattle.zst_model.specs.pools.Step.{count_datasets}
use Rattle.zst_dir.specs.RowNames.{AreNamed, NamesDataset, NamesPartial, NamesSnapshot}
use Rattle.zst_dir.specs.Rows.{Rows}
use Rattle.zst_dir.specs.declared.rows.Dataset.{Dataset}
use Rattle.zst_dir.specs.declared.rows.Snapshot.{Snapshot}
use Rattle.zst_dir.proofs.Matches.{count_by-Match, is_some-position, length-Match, list_any-Match}

module _ (rows : Rows) (pool : Pool) (are : AreNamed rows pool) where
  -- a dataset is found among the rows exactly where the pool has it
  pub dataset_is_there : (name : List ℕ) → is_some (position (λ dataset. bytes_eq dataset.name name) rows.datasets) ≡ is_some (dataset_named name pool)
  dataset_is_there name =
      is_some-position (λ (dataset : Dataset). bytes_eq dataset.name name) rows.datasets
      ∙ list_any-Match NamesDataset (λ dataset. bytes_eq dataset.name name) (λ dataset. bytes_eq dataset.name name)
      (λ x y is. ap (λ n. bytes_eq n name) (sym is.name)) rows.datasets pool.datasets are.datasets

  -- a snapshot is, too
  pub snapshot_is_there : (name : List ℕ) → is_some (position (λ snapshot. bytes_eq snapshot.name name) rows.snapshots) ≡ is_some (snapshot_named name pool)
  snapshot_is_there name =
      is_some-position (λ (snapshot : Snapshot). bytes_eq snapshot.name name) rows.snapshots
      ∙ list_any-Match NamesSnapshot (λ snapshot. bytes_eq snapshot.name name) (λ snapshot. bytes_eq snapshot.name name)
      (λ x y is. ap (λ n. bytes_eq n name) (sym is.name)) rows.snapshots pool.snapshots are.snapshots

  -- the partial states are as many
  pub partials_are_counted : length rows.partials ≡ length pool.partials
  partials_are_counted = length-Match NamesPartial rows.partials pool.partials are.partials

  -- and the datasets, with the targets of partial states that aren't there
  pub datasets_are_counted : (absent : ℕ) → absent ≡ count_by (λ partial. is_none (position (λ dataset. bytes_eq dataset.name partial.target) rows.datasets)) rows.partials
      → length rows.datasets + absent ≡ count_datasets pool
  datasets_are_counted absent is =
      ap (λ n. n + absent) (length-Match NamesDataset rows.datasets pool.datasets are.datasets)
      ∙ ap (λ n. length pool.datasets + n) (is ∙ count_by-Match NamesPartial (λ partial. is_none (position (λ dataset. bytes_eq dataset.name partial.target) rows.datasets)) (λ partial. not (is_some (dataset_named partial.target pool)))
      (λ x y is. ap not (dataset_is_there x.target ∙ ap (λ n. is_some (dataset_named n pool)) (sym is.target))) rows.partials pool.partials are.partials)
