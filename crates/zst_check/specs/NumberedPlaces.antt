-- What the numbers of a directory's snapshots tell at one place.
use Rattle.std.specs.Prelude.{◌≡◌, ℕ, ◌+◌, ◌<◌, ◌≤◌, HoldsAt}
use Rattle.zst_model.specs.pools.Ancestry.{IsOrigin}
use Rattle.zst_model.specs.pools.Pool.{Pool, Snapshot}
use Rattle.zst_check.specs.NumbersInTurn.{snapshot_at, dataset_at, IsFirstOfDataset}

-- the snapshot at this place is numbered in turn: not above the pool, and above the one just before it, where that is of its dataset, and else above the origin
pub record IsNumberedAt (pool : Pool) (place : ℕ) : Type 0 where
  pub number : HoldsAt (λ snapshot. snapshot.number ≤ pool.number) pool.snapshots place
  pub next : (before : ℕ) (default : Snapshot) → before + 1 ≡ place → dataset_at pool default before ≡ dataset_at pool default place
      → (snapshot_at pool default before).number < (snapshot_at pool default place).number
  pub first : (default origin : Snapshot) → IsFirstOfDataset pool default place → IsOrigin pool origin (dataset_at pool default place) → origin.number < (snapshot_at pool default place).number
