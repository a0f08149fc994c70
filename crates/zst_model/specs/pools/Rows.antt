-- Each dated state of a pool, as one row.
use Rattle.std.specs.Prelude.{ℕ, List, Some, None, map, ◌++◌}
use Rattle.zst_model.specs.states.DatedState.{DatedState}
use Rattle.zst_model.specs.pools.Pool.{Pool, Dataset, Snapshot, Partial, dataset_of_snapshot}
use Rattle.zst_model.specs.pools.Ancestry.{Place, InDataset, InPartial}

-- a dated state: its place, the number that none of its dates exceeds, and its objects
pub record Row : Type 0 where
  pub place : Place
  pub number : ℕ
  pub objects : DatedState

-- a snapshot stands in its dataset at its number, and is dated up to it
abbrev pub snapshot_row : Snapshot → Row
snapshot_row snapshot = record { place = InDataset (dataset_of_snapshot snapshot) (Some snapshot.number); number = snapshot.number; objects = snapshot.objects }

-- a head and a partial state are dated up to the pool's number
abbrev pub head_row : ℕ → Dataset → Row
head_row number dataset = record { place = InDataset dataset.name None; number = number; objects = dataset.head }

abbrev pub partial_row : ℕ → Partial → Row
partial_row number partial = record { place = InPartial partial; number = number; objects = partial.objects }

-- the rows of a pool: its snapshots, heads and partial states
abbrev pub rows : Pool → List Row
rows pool = map snapshot_row pool.snapshots ++ (map (head_row pool.number) pool.datasets ++ map (partial_row pool.number) pool.partials)
