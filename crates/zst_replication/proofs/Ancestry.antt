-- What stands before what, in the pool that runs while a receive is under way and in the pool that it began with.
use Rattle.std.proofs.Common.{inl, inr, ℕ, ◌≤◌, List, ◌∷◌, ◌++◌, Option, Some, None, IfSome, Contains}
use Rattle.std.proofs.lemmas.List.Elements.{All-contains}
use Rattle.zst_model.specs.pools.Pool.{Pool, Snapshot, Bookmark, Partial, HasDataset, HasSnapshot, IsLinked, dataset_of_snapshot, dataset_of_bookmark}
use Rattle.zst_model.specs.pools.Ancestry.{IsOrigin, IsBase, Source, OfSnapshot, OfBookmark, StandsBefore, Earlier, AtOrigin, BeforeOrigin, BaseCounts, IsBefore, IsBeforePartial}
use Rattle.zst_model.specs.pools.Rows.{Row, rows}
use Rattle.zst_model.specs.pools.Soundness.{Agrees, DatedUpTo, IsBookmarkOf, Sound}
use Rattle.zst_model.specs.states.State.{State}
use Rattle.zst_laws.specs.RememberedStates.{SourceRemembers}
use Rattle.zst_laws.proofs.pools.Descent.{row_cases, IsRow, SnapshotRow, HeadRow, PartialRow, snapshot_has_row, head_has_row, partial_has_row}
use Rattle.zst_model.proofs.InsertedLaws.{All-from_contains}

-- ---- rows

module _ (pool : Pool) where
  -- a row of a pool is one of its rows
  pub has_row : (row : Row) → IsRow pool row → Contains (rows pool) row
  has_row row (SnapshotRow snapshot there) = snapshot_has_row pool snapshot there
  has_row row (HeadRow dataset there) = head_has_row pool dataset there
  has_row row (PartialRow partial there) = partial_has_row pool partial there

  -- what a sound pool says of a row
  pub sound_agrees : Sound pool → (earlier : Snapshot) → Contains pool.snapshots earlier → (row : Row) → IsRow pool row → IsBefore pool (OfSnapshot earlier) row.place → Agrees earlier row.objects
  sound_agrees sound earlier here row is before = sound.agree earlier row here (has_row row is) before

  pub sound_dated : Sound pool → (row : Row) → IsRow pool row → DatedUpTo row.number row.objects
  sound_dated sound row is = All-contains (λ r. DatedUpTo r.number r.objects) (rows pool) row sound.dated.states (has_row row is)

  pub old_number : Sound pool → (earlier : Snapshot) → Contains pool.snapshots earlier → earlier.number ≤ pool.number
  old_number sound earlier here = All-contains (λ s. s.number ≤ pool.number) pool.snapshots earlier sound.dated.numbers here

-- ---- from one pool to another

-- each origin that a dataset of some has in the new pool is its origin in the old one, and is of one of them
abbrev pub HasOldOrigins : (List ℕ → Type 0) → Pool → Pool → Type 0
HasOldOrigins Has old new = (origin : Snapshot) (name : List ℕ) → Has name → IsOrigin new origin name → IsOrigin old origin name × Has (dataset_of_snapshot origin)

-- then what stands before one of these in the new pool stood before it in the old one
pub stood_before : (Has : List ℕ → Type 0) (old new : Pool) (source : Source) → HasOldOrigins Has old new → (name : List ℕ) (bound : Option ℕ)
    → Has name → StandsBefore new source name bound → StandsBefore old source name bound
stood_before Has old new source h name bound has (Earlier _ _ same below) = Earlier name bound same below
stood_before Has old new source h name bound has (AtOrigin _ _ origin is marks) = AtOrigin name bound origin (h origin name has is).0 marks
stood_before Has old new source h name bound has (BeforeOrigin _ _ origin is before) =
    let was = h origin name has is in
    BeforeOrigin name bound origin was.0 (stood_before Has old new source h (dataset_of_snapshot origin) (Some origin.number) was.1 before)

-- a base that counts in the new pool counts in the old one, where the target isn't new
pub counted : (old new : Pool) (source : Source) (partial : Partial) → (HasDataset old partial.target → HasDataset new partial.target) → BaseCounts new source partial → BaseCounts old source partial
counted old new (OfSnapshot snapshot) partial stays counts = tt
counted old new (OfBookmark bookmark) partial stays counts = λ has. counts (stays has)

-- and so it is with a partial state whose base is an old one, and whose target is there in both pools or in neither
pub stood_before_partial : (Has : List ℕ → Type 0) (old new : Pool) (source : Source) (partial : Partial) → HasOldOrigins Has old new
    → ((base : Snapshot) → IsBase new base partial → IsBase old base partial × Has (dataset_of_snapshot base)) → (HasDataset new partial.target → HasDataset old partial.target × Has partial.target)
    → (HasDataset old partial.target → HasDataset new partial.target) → IsBeforePartial new source partial → IsBeforePartial old source partial
stood_before_partial Has old new source partial h bases target stays (inl at) =
    let has = target at.target in inl (record { target = has.0; before = stood_before Has old new source h partial.target None has.1 at.before })
stood_before_partial Has old new source partial h bases target stays (inr at) =
    let clone = at.1 in
    let is = bases clone.base clone.is_base in
    inr (
      counted old new source partial stays at.0,
      record {
        base = clone.base;
        is_base = is.0;
        before = elim clone.before [
          | inl marks ↦ inl marks
          | inr before ↦ inr (stood_before Has old new source h (dataset_of_snapshot clone.base) (Some clone.base.number) is.1 before)
        ];
      },
    )

-- a snapshot's dataset is there
pub owner : (pool : Pool) → IsLinked pool → (snapshot : Snapshot) → Contains pool.snapshots snapshot → HasDataset pool (dataset_of_snapshot snapshot)
owner pool linked snapshot there = All-contains (λ s. HasDataset pool (dataset_of_snapshot s)) pool.snapshots snapshot linked.snapshots there

-- so origins are of datasets that are there
pub old_origins : (old new : Pool) → IsLinked old → ((origin : Snapshot) (name : List ℕ) → HasDataset old name → IsOrigin new origin name → IsOrigin old origin name) → HasOldOrigins (HasDataset old) old new
old_origins old new linked h origin name has is = let was = h origin name has is in (was, owner old linked origin was.snapshot_there)

-- ---- fewer partial states

-- a sound pool without some of its partial states is sound
module _ (pool : Pool) (partials : List Partial) (some : (partial : Partial) → Contains partials partial → Contains pool.partials partial) where
  abbrev fewer : Pool
  fewer = record pool { partials = partials }

  abbrev Any : List ℕ → Type 0
  Any name = Unit {0}

  fewer_origins : HasOldOrigins Any pool fewer
  fewer_origins origin name has is = (record { dataset = is.dataset; there = is.there; named = is.named; snapshot_there = is.snapshot_there; is_origin = is.is_origin }, tt)

  fewer_row : (row : Row) → IsRow fewer row → IsRow pool row
  fewer_row row (SnapshotRow snapshot there) = SnapshotRow snapshot there
  fewer_row row (HeadRow dataset there) = HeadRow dataset there
  fewer_row row (PartialRow partial there) = PartialRow partial (some partial there)

  pub fewer_before_partial : (source : Source) (partial : Partial) → IsBeforePartial fewer source partial → IsBeforePartial pool source partial
  fewer_before_partial source partial before =
      stood_before_partial Any pool fewer source partial fewer_origins (λ base is. (record { there = is.there; is_base = is.is_base }, tt)) (λ has. (has, tt)) (λ has. has) before

  fewer_before : (source : Source) (row : Row) → IsRow fewer row → IsBefore fewer source row.place → IsBefore pool source row.place
  fewer_before source row (SnapshotRow snapshot there) before = stood_before Any pool fewer source fewer_origins (dataset_of_snapshot snapshot) (Some snapshot.number) tt before
  fewer_before source row (HeadRow dataset there) before = stood_before Any pool fewer source fewer_origins dataset.name None tt before
  fewer_before source row (PartialRow partial there) before = fewer_before_partial source partial before

  fewer_bookmark : (bookmark : Bookmark) → IsBookmarkOf pool bookmark → IsBookmarkOf fewer bookmark
  fewer_bookmark bookmark is = record {
    dataset = is.dataset;
    above = λ origin of. is.above origin (fewer_origins origin (dataset_of_bookmark bookmark) tt of).0;
    number = is.number;
    guid = is.guid;
  }

  pub fewer_sound : Sound pool → Sound fewer
  fewer_sound sound = record {
    agree = λ earlier row here there before.
        let is = row_cases fewer row there in sound_agrees pool sound earlier here row (fewer_row row is) (fewer_before (OfSnapshot earlier) row is before);
    dated = record {
      states = All-from_contains (λ r. DatedUpTo r.number r.objects) (rows fewer) (λ row there. sound_dated pool sound row (fewer_row row (row_cases fewer row there)));
      numbers = sound.dated.numbers;
      rise = sound.dated.rise;
      above = λ origin later there is. sound.dated.above origin later there (fewer_origins origin (dataset_of_snapshot later) tt is).0;
    };
    bookmarks = All-from_contains (IsBookmarkOf fewer) pool.bookmarks (λ b there. fewer_bookmark b (All-contains (IsBookmarkOf pool) pool.bookmarks b sound.bookmarks there));
  }

  -- and its sources remember what they did
  pub fewer_remembers : (source : Source) (state : State) → SourceRemembers pool source state → SourceRemembers fewer source state
  fewer_remembers source state remembers = record {
    own = λ snapshot there own. remembers.own snapshot there own;
    later = λ row there before. let is = row_cases fewer row there in remembers.later row (has_row pool row (fewer_row row is)) (fewer_before source row is before);
  }

  -- and their names are linked
  pub fewer_linked : IsLinked pool → IsLinked fewer
  fewer_linked linked = record {
    snapshots = linked.snapshots;
    origins = linked.origins;
    bases = All-from_contains (λ partial. IfSome partial.base (HasSnapshot fewer)) partials (λ p there. All-contains (λ partial. IfSome partial.base (HasSnapshot pool)) pool.partials p linked.bases (some p there));
    components = All-from_contains (λ partial. HasSnapshot fewer (partial.target ++ 64 ∷ partial.component) → ⊥) partials
        (λ p there. All-contains (λ partial. HasSnapshot pool (partial.target ++ 64 ∷ partial.component) → ⊥) pool.partials p linked.components (some p there));
  }
