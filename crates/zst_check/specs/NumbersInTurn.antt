-- Snapshots that are numbered in turn: it is enough to compare the number of each with its neighbour's.
use Rattle.std.specs.Prelude.{◌≡◌, ◌≢◌, ℕ, ◌+◌, ◌<◌, ◌≤◌, List, All, length, slice_index_or}
use Rattle.zst_model.specs.pools.Ancestry.{IsOrigin}
use Rattle.zst_model.specs.pools.Pool.{Pool, Snapshot, IsNamed, dataset_of_snapshot}
use Rattle.zst_model.specs.pools.Rows.{rows}
use Rattle.zst_model.specs.pools.Soundness.{Dated, DatedUpTo}

-- the snapshot at this place of the directory
abbrev pub snapshot_at : Pool → Snapshot → ℕ → Snapshot
snapshot_at pool default place = slice_index_or pool.snapshots place default

-- its dataset
abbrev pub dataset_at : Pool → Snapshot → ℕ → List ℕ
dataset_at pool default place = dataset_of_snapshot (snapshot_at pool default place)

-- no snapshot of its dataset stands just before this place
abbrev pub IsFirstOfDataset : Pool → Snapshot → ℕ → Type 0
IsFirstOfDataset pool default place = (before : ℕ) → before + 1 ≡ place → dataset_at pool default before ≢ dataset_at pool default place

-- no number is above the pool's; each snapshot is numbered above the one just before it, where that is of its dataset; and the first of a dataset is numbered above the origin
pub record AreNumberedInTurn (pool : Pool) : Type 0 where
  pub numbers : All (λ snapshot. snapshot.number ≤ pool.number) pool.snapshots
  pub next : (before place : ℕ) (default : Snapshot) → before + 1 ≡ place → place < length pool.snapshots
      → dataset_at pool default before ≡ dataset_at pool default place → (snapshot_at pool default before).number < (snapshot_at pool default place).number
  pub first : (place : ℕ) (default origin : Snapshot) → place < length pool.snapshots → IsFirstOfDataset pool default place
      → IsOrigin pool origin (dataset_at pool default place) → origin.number < (snapshot_at pool default place).number

-- so part 2 holds of a pool with names in their order, where no date is too late
abbrev pub InTurnIsEnough : Type 0
InTurnIsEnough = (pool : Pool) → IsNamed pool → All (λ row. DatedUpTo row.number row.objects) (rows pool) → AreNumberedInTurn pool → Dated pool
