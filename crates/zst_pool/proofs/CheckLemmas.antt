-- What the rows of a directory say of the pool that they stand for.
use Rattle.std.proofs.Common.{◌≡◌, ℕ, ◌+◌, ◌≤◌, ◌<◌, ◌^◌, ◌-◌, get_or, true, false, List, length, Some, is_some, Result, Ok, Err, refl, sym, ap, ◌∙◌, subst, arith}
use Rattle.std.specs.Prelude.{IfErr, IsErrAnd, OnOk}
use Rattle.std.specs.List.{position, list_any}
use Rattle.std.specs.Str.{bytes_eq}
use Rattle.zst_model.specs.declared.refusals.faults.Quantity.TheVariants as quantities
use Rattle.zst_model.specs.declared.refusals.refusal.Refusal.{Refusal}
use Rattle.zst_model.specs.declared.refusals.refusal.Refusal.TheVariants as refusals
use Rattle.zst_model.specs.declared.refusals.subjects.Name.TheVariants as names
use Rattle.zst_model.specs.pools.Pool.{Pool, dataset_named, partial_of, snapshot_named}
use Rattle.zst_model.specs.pools.Pool as plain
use Rattle.zst_model.specs.pools.Step.{Stepped, committed, count_datasets, exists_already, no_such, busy_partial, on_dataset, last_number, last_guid, most_datasets, most_snapshots, with_dataset}
use Rattle.zst_model.proofs.Options.{none_there}
use Rattle.zst_model.proofs.PassedLimits.{over, within_limit}
use Rattle.zst_pool.specs.Checks.{next_of, with_new, if_new_snapshot, if_guid_left}
use Rattle.zst_dir.specs.Rows.{Rows}
use Rattle.zst_dir.specs.RowNames.{AreNamed, NamesDataset, NamesSnapshot, NamesPartial, StandAlike}
use Rattle.zst_dir.specs.declared.rows.Dataset.{Dataset}
use Rattle.zst_dir.proofs.Matches.{length-Match, list_any-Match, find-Match}
use Rattle.zst_dir.proofs.NamedRows.{partials_are_counted}

pub err_has : {T F : Type 0} (P : F → Type 0) (result : Result T F) (fault : F) → IsErrAnd result (λ e. e ≡ fault) → P fault → IfErr result P
err_has P (Ok value) fault is holds = tt
err_has P (Err e) fault is holds = subst P (sym is) holds

-- what holds does so after each answer that isn't refused
pub ok_holds : {T F : Type 0} (result : Result T F) (P : Type 0) → P → OnOk result P
ok_holds (Ok value) P holds = holds
ok_holds (Err fault) P holds = tt

pub at_last_number : (pool : Pool) → 2 ^ 63 ≤ pool.number → committed pool ≡ Err (refusals.Limit quantities.Number (2 ^ 63))
unfolding last_number
at_last_number pool le = over quantities.Number (2 ^ 63) (pool.number + 1) (Ok (next_of pool)) (omega (arith, le))

pub below_last_number : (pool : Pool) → pool.number < 2 ^ 63 → committed pool ≡ Ok (next_of pool)
unfolding last_number
below_last_number pool lt = within_limit quantities.Number (2 ^ 63) (pool.number + 1) (Ok (next_of pool)) (omega (arith, lt))

module _ (rows : Rows) (pool : Pool) (are : AreNamed rows pool) where
  -- a partial state is
  pub partial_is_there : (name : List ℕ) → list_any (λ partial. bytes_eq partial.target name) rows.partials ≡ is_some (partial_of name pool)
  partial_is_there name =
      list_any-Match NamesPartial (λ partial. bytes_eq partial.target name) (λ partial. bytes_eq partial.target name)
      (λ x y is. ap (λ n. bytes_eq n name) (sym is.target)) rows.partials pool.partials are.partials

  pub snapshots_are_counted : length rows.snapshots + length rows.partials ≡ length pool.snapshots + length pool.partials
  snapshots_are_counted =
      ap (λ n. n + length rows.partials) (length-Match NamesSnapshot rows.snapshots pool.snapshots are.snapshots) ∙ ap (λ n. length pool.snapshots + n) (partials_are_counted rows pool are)

  -- the row of a dataset stands at the place of the pool's
  pub dataset_at : (name : List ℕ) (place : ℕ) (d : Dataset) → position (λ dataset. bytes_eq dataset.name name) rows.datasets ≡ Some place
      → (dataset : plain.Dataset) × (dataset_named name pool ≡ Some dataset) × StandAlike rows.datasets pool.datasets (get_or rows.datasets place d) dataset
  dataset_at name place d is =
      find-Match NamesDataset (λ dataset. bytes_eq dataset.name name) (λ dataset. bytes_eq dataset.name name)
      (λ x y is. ap (λ n. bytes_eq n name) (sym is.name)) d rows.datasets pool.datasets are.datasets place is

  -- what a new snapshot is refused for
  module _ (name : List ℕ) (rest : Result Stepped Refusal) where
    pub snapshot_is_taken : is_some (snapshot_named name pool) ≡ true → if_new_snapshot name pool rest ≡ Err (exists_already (names.Snapshot name))
    snapshot_is_taken there = rw there refl

    pub snapshots_are_many : is_some (snapshot_named name pool) ≡ false → 1024 ≤ length pool.snapshots + length pool.partials
        → if_new_snapshot name pool rest ≡ Err (refusals.Limit quantities.Snapshots 1024)
    unfolding most_snapshots
    snapshots_are_many absent many = rw absent (over quantities.Snapshots 1024 (length pool.snapshots + length pool.partials + 1) rest (omega (arith, many)))

    pub snapshot_is_new : is_some (snapshot_named name pool) ≡ false → length pool.snapshots + length pool.partials < 1024 → if_new_snapshot name pool rest ≡ rest
    unfolding most_snapshots
    snapshot_is_new absent few = rw absent (within_limit quantities.Snapshots 1024 (length pool.snapshots + length pool.partials + 1) rest (omega (arith, few)))

  -- what a command on a dataset is refused for
  module _ (name : List ℕ) (next : plain.Dataset → Result Stepped Refusal) where
    pub dataset_is_absent : is_some (dataset_named name pool) ≡ false → on_dataset name pool next ≡ Err (no_such (names.Dataset name))
    dataset_is_absent absent = rw (none_there (dataset_named name pool) absent) refl

    pub dataset_is_busy : (dataset : plain.Dataset) → dataset_named name pool ≡ Some dataset → is_some (partial_of name pool) ≡ true → on_dataset name pool next ≡ Err (busy_partial name)
    dataset_is_busy dataset there busy = rw (there, busy) refl

    pub dataset_is_open : (dataset : plain.Dataset) → dataset_named name pool ≡ Some dataset → is_some (partial_of name pool) ≡ false → on_dataset name pool next ≡ next dataset
    dataset_is_open dataset there free = rw (there, free) refl

  -- what making a dataset is refused for, and what else it makes
  module _ (dataset : plain.Dataset) where
    pub dataset_is_taken : is_some (dataset_named dataset.name pool) ≡ true → with_dataset dataset pool ≡ Err (exists_already (names.Dataset dataset.name))
    dataset_is_taken there = rw there refl

    pub dataset_is_partial : is_some (dataset_named dataset.name pool) ≡ false → is_some (partial_of dataset.name pool) ≡ true → with_dataset dataset pool ≡ Err (exists_already (names.Dataset dataset.name))
    dataset_is_partial absent there = rw (absent, there) refl

    pub datasets_are_many : is_some (dataset_named dataset.name pool) ≡ false → is_some (partial_of dataset.name pool) ≡ false → 256 ≤ count_datasets pool
        → with_dataset dataset pool ≡ Err (refusals.Limit quantities.Datasets 256)
    unfolding most_datasets
    datasets_are_many absent free many = rw (absent, free) (over quantities.Datasets 256 (count_datasets pool + 1) (committed (with_new dataset pool)) (omega (arith, many)))

    pub dataset_is_new : is_some (dataset_named dataset.name pool) ≡ false → is_some (partial_of dataset.name pool) ≡ false → count_datasets pool < 256
        → with_dataset dataset pool ≡ committed (with_new dataset pool)
    unfolding most_datasets
    dataset_is_new absent free few = rw (absent, free) (within_limit quantities.Datasets 256 (count_datasets pool + 1) (committed (with_new dataset pool)) (omega (arith, few)))

-- the guids that are left
pub at_last_guid : (guids : ℕ) (rest : Result Stepped Refusal) → 2 ^ 32 - 1 ≤ guids → if_guid_left guids rest ≡ Err (refusals.Limit quantities.Guids (2 ^ 32 - 1))
unfolding last_guid
at_last_guid guids rest le = over quantities.Guids (2 ^ 32 - 1) (guids + 1) rest (omega (arith, le))

pub below_last_guid : (guids : ℕ) (rest : Result Stepped Refusal) → guids < 2 ^ 32 - 1 → if_guid_left guids rest ≡ rest
unfolding last_guid
below_last_guid guids rest lt = within_limit quantities.Guids (2 ^ 32 - 1) (guids + 1) rest (omega (arith, lt))
