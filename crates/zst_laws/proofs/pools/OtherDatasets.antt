-- The next commit's pool with other datasets and the same snapshots.
use Rattle.std.proofs.Common.{inl, refl, ℕ, ◌+◌, ◌≤◌, List, Contains, arith}
use Rattle.std.proofs.lemmas.List.Elements.{All-contains}
use Rattle.zst_model.specs.pools.Pool.{Pool, Dataset, Partial, HasDataset, IsLinked, dataset_of_bookmark}
use Rattle.zst_model.specs.pools.Rows.{Row, head_row}
use Rattle.zst_model.specs.pools.Soundness.{Sound}
use Rattle.zst_laws.proofs.pools.Ancestry.{HasOldOrigins}
use Rattle.zst_laws.proofs.pools.Descent.{IsRow, SnapshotRow, HeadRow, PartialRow, row_cases, Descends, IsNext, next_sound, snapshot_stays, partial_stays}

-- the next commit's pool with these datasets
abbrev pub with_datasets : Pool → List Dataset → Pool
with_datasets pool datasets = record pool { datasets = datasets; number = pool.number + 1 }

-- the datasets have the old names, no new origin and no new target, and each of their heads comes from an old row, or is a first
pub record KeepsDatasets (pool : Pool) (datasets : List Dataset) : Type 0 where
  pub origins : HasOldOrigins pool (with_datasets pool datasets)
  pub names : (name : List ℕ) → HasDataset pool name → HasDataset (with_datasets pool datasets) name
  pub targets : (partial : Partial) → Contains pool.partials partial → HasDataset (with_datasets pool datasets) partial.target → HasDataset pool partial.target
  pub heads : (dataset : Dataset) → Contains datasets dataset → Descends pool (with_datasets pool datasets) (head_row (pool.number + 1) dataset)

module _ (pool : Pool) (datasets : List Dataset) (linked : IsLinked pool) (keeps : KeepsDatasets pool datasets) where
  abbrev next_pool : Pool
  next_pool = with_datasets pool datasets

  row_descends : (row : Row) → IsRow next_pool row → Descends pool next_pool row
  row_descends row (SnapshotRow snapshot there) = inl (snapshot_stays pool next_pool linked keeps.origins refl snapshot there)
  row_descends row (HeadRow dataset there) = keeps.heads dataset there
  row_descends row (PartialRow partial there) = inl (partial_stays pool next_pool linked keeps.origins refl partial there
      (λ base is. record { there = is.there; is_base = is.is_base }) (keeps.targets partial there) (keeps.names partial.target))

  pub datasets_next : IsNext pool next_pool
  datasets_next = record {
    number = refl;
    origins = keeps.origins;
    bookmarks = λ bookmark there. inl (there, keeps.names (dataset_of_bookmark bookmark));
    snapshots = λ snapshot there. inl there;
    rows = λ row there. row_descends row (row_cases next_pool row there);
  }

  -- such datasets leave a sound pool
  pub datasets_sound : Sound pool → Sound next_pool
  datasets_sound sound = next_sound pool next_pool linked sound datasets_next sound.dated.rise
      (λ earlier row here e there before.
      let l : earlier.number ≤ pool.number = All-contains (λ s. s.number ≤ pool.number) pool.snapshots earlier sound.dated.numbers here in absurd (omega arith))
