-- The snapshot before a row that is enough to compare it with: the nearest one.
use Rattle.std.specs.Prelude.{ℕ, ◌≡◌, ◌≤◌, ◌⊎◌, List, Option, None, Contains}
use Rattle.zst_model.specs.pools.Pool.{Pool, Snapshot, HasDataset, dataset_of_snapshot}
use Rattle.zst_model.specs.pools.Ancestry.{IsBase, IsBelow, IsOrigin, Place, InDataset, InPartial}
use Rattle.zst_model.specs.pools.Rows.{Row, rows}
use Rattle.zst_model.specs.pools.Soundness.{Agree, Agrees, Dated}

-- one of some snapshots that is of a dataset and below a bound
pub record IsOneBelow (snapshots : List Snapshot) (snapshot : Snapshot) (name : List ℕ) (bound : Option ℕ) : Type 0 where
  pub there : Contains snapshots snapshot
  pub named : dataset_of_snapshot snapshot ≡ name
  pub below : IsBelow snapshot.number bound

-- the last snapshot of a dataset below a bound, or, where it has none there, the origin of the dataset
abbrev pub IsNearestIn : Pool → Snapshot → List ℕ → Option ℕ → Type 0
IsNearestIn pool snapshot name bound =
    (IsOneBelow pool.snapshots snapshot name bound × ((other : Snapshot) → IsOneBelow pool.snapshots other name bound → other.number ≤ snapshot.number))
    ⊎ (IsOrigin pool snapshot name × ((other : Snapshot) → ¬ IsOneBelow pool.snapshots other name bound))

-- the nearest snapshot before a place; before a partial state there may be two, that of its target and its base
abbrev pub IsNearest : Pool → Snapshot → Place → Type 0
IsNearest pool snapshot (InDataset name bound) = IsNearestIn pool snapshot name bound
IsNearest pool snapshot (InPartial partial) = (HasDataset pool partial.target × IsNearestIn pool snapshot partial.target None) ⊎ IsBase pool snapshot partial

-- each row agrees with the nearest snapshots before it
abbrev pub AgreesWithNearest : Pool → Type 0
AgreesWithNearest pool = (earlier : Snapshot) (later : Row) → Contains (rows pool) later → IsNearest pool earlier later.place → Agrees earlier later.objects

-- so in a dated pool each row agrees with each snapshot before it
abbrev pub NearestIsEnough : Type 0
NearestIsEnough = (pool : Pool) → Dated pool → AgreesWithNearest pool → Agree pool
