-- What an image keeps of a pool that runs.
use Rattle.std.proofs.Common.{Bool, Some, None, Contains, refl}
use Rattle.std.proofs.lemmas.List.Elements.{All-contains, filter_passes}
use Rattle.zst_model.specs.pools.Pool.{Pool, Bookmark, Partial, dataset_of_snapshot, dataset_of_bookmark}
use Rattle.zst_model.specs.pools.Ancestry.{Source, OfSnapshot, Place, InDataset, InPartial, IsBefore}
use Rattle.zst_model.specs.pools.KeptPool.{kept_of}
use Rattle.zst_model.specs.pools.Rows.{Row, rows}
use Rattle.zst_model.specs.pools.Soundness.{DatedUpTo, IsBookmarkOf, Sound}
use Rattle.zst_model.proofs.InsertedLaws.{All-from_contains}
use Rattle.zst_model.proofs.FilteredLists.{filter_contains, contains-filter}
use Rattle.zst_model.proofs.KeptPools.{all_stay}
use Rattle.zst_laws.specs.KeptPools.{TwoAreKept, KeptAreKept, KeepingIsDone, KeptIsLawful, KeptIsSound}
use Rattle.zst_laws.proofs.pools.LawfulRest.{fewer_partials_are_lawful}
use Rattle.zst_laws.proofs.pools.Descent.{IsRow, SnapshotRow, HeadRow, PartialRow, snapshot_has_row, head_has_row, partial_has_row, row_cases}
use Rattle.zst_laws.proofs.pools.Ancestry.{HasOrigins, stands_on, before_partial_on}

-- whether a partial state is kept
abbrev is_kept : Partial → Bool
is_kept partial = partial.keep

pub two_kept : TwoAreKept
two_kept = (refl, refl, refl)

pub kept_are_kept : KeptAreKept
kept_are_kept pool = (
  filter_passes is_kept pool.partials,
  λ partial there. filter_contains is_kept pool.partials partial there,
  λ partial there keep. contains-filter is_kept pool.partials partial there keep,
  refl,
)

pub keeping_done : KeepingIsDone
keeping_done = (all_stay, λ pool. all_stay (kept_of pool) (filter_passes is_kept pool.partials))

pub kept_lawful : KeptIsLawful
kept_lawful pool is = fewer_partials_are_lawful is_kept pool is

module _ (pool : Pool) where
  -- origins are those of the pool that runs
  kept_origins : HasOrigins pool (kept_of pool)
  kept_origins origin name is = record { dataset = is.dataset; there = is.there; named = is.named; snapshot_there = is.snapshot_there; is_origin = is.is_origin }

  -- a row that the image has is one of the pool that runs
  kept_row : (row : Row) → IsRow (kept_of pool) row → Contains (rows pool) row
  kept_row row (SnapshotRow snapshot there) = snapshot_has_row pool snapshot there
  kept_row row (HeadRow dataset there) = head_has_row pool dataset there
  kept_row row (PartialRow partial there) = partial_has_row pool partial (filter_contains is_kept pool.partials partial there)

  -- what stands before it stood before it there
  kept_before : (source : Source) (place : Place) → IsBefore (kept_of pool) source place → IsBefore pool source place
  kept_before source (InDataset name bound) before = stands_on (kept_of pool) pool source kept_origins name bound before
  kept_before source (InPartial partial) before = before_partial_on (kept_of pool) pool source partial (record {
    bases = λ base is. record { there = is.there; is_base = is.is_base };
    target = λ there. there;
    target_back = λ there. there;
    before_target = λ other has. stands_on (kept_of pool) pool other kept_origins partial.target None;
    before_base = λ other base is. stands_on (kept_of pool) pool other kept_origins (dataset_of_snapshot base) (Some base.number);
  }) before

  kept_bookmark : (bookmark : Bookmark) → IsBookmarkOf pool bookmark → IsBookmarkOf (kept_of pool) bookmark
  kept_bookmark bookmark is = record {
    dataset = is.dataset;
    above = λ origin of. is.above origin (kept_origins origin (dataset_of_bookmark bookmark) of);
    number = is.number;
    guid = is.guid;
  }

  pub kept_is_sound : Sound pool → Sound (kept_of pool)
  kept_is_sound sound = record {
    agree = λ earlier row here there before.
        sound.agree earlier row here (kept_row row (row_cases (kept_of pool) row there)) (kept_before (OfSnapshot earlier) row.place before);
    dated = record {
      states = All-from_contains (λ r. DatedUpTo r.number r.objects) (rows (kept_of pool))
          (λ row there. All-contains (λ r. DatedUpTo r.number r.objects) (rows pool) row sound.dated.states (kept_row row (row_cases (kept_of pool) row there)));
      numbers = sound.dated.numbers;
      rise = sound.dated.rise;
      above = λ origin later there is. sound.dated.above origin later there (kept_origins origin (dataset_of_snapshot later) is);
    };
    bookmarks = All-from_contains (IsBookmarkOf (kept_of pool)) pool.bookmarks
        (λ b there. kept_bookmark b (All-contains (IsBookmarkOf pool) pool.bookmarks b sound.bookmarks there));
  }

pub kept_sound : KeptIsSound
kept_sound pool sound = kept_is_sound pool sound
