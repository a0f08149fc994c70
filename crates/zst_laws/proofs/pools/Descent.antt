-- Rows of the next commit's pool, and the rows of the pool that they come from.
use Rattle.std.proofs.Common.{◌≡◌, inl, inr, ◌⊎◌, ℕ, ◌+◌, ◌<◌, ◌≤◌, List, ◌++◌, map, Option, Some, None, AllPairs, Contains, refl, sym, subst, arith}
use Rattle.std.proofs.lemmas.List.Elements.{All-contains, Contains-append_left, Contains-append_right, Contains-append_cases}
use Rattle.zst_model.specs.states.State.{State}
use Rattle.zst_model.specs.pools.Pool.{Pool, Dataset, Snapshot, Bookmark, Partial, HasDataset, IsLinked, dataset_of_snapshot, dataset_of_bookmark}
use Rattle.zst_model.specs.pools.Ancestry.{IsOrigin, IsBase, Source, OfSnapshot, OfBookmark, dataset_of_source, number_of_source, IsIn, StandsBefore, IsBefore}
use Rattle.zst_model.specs.pools.Rows.{Row, snapshot_row, head_row, partial_row, rows}
use Rattle.zst_model.specs.pools.Soundness.{Agrees, DatedUpTo, IsBookmarkOf, Sound}
use Rattle.zst_model.specs.states.DatedState.{DatedState}
use Rattle.zst_model.proofs.InsertedLaws.{All-from_contains, contains-map, map_contains}
use Rattle.zst_model.specs.sends.Target.{Remembers}
use Rattle.zst_model.proofs.DatedStates.{dated_higher}
use Rattle.zst_model.proofs.UniqueElements.{same_element}
use Rattle.zst_laws.specs.RememberedStates.{IsOwn, SourceRemembers}
use Rattle.zst_laws.proofs.pools.Ancestry.{HasOldOrigins, stood_before, before_partial_on}

-- a row is of a snapshot, a head or a partial state
pub data IsRow (pool : Pool) : Row → Type 0 where
  SnapshotRow : (snapshot : Snapshot) → Contains pool.snapshots snapshot → IsRow pool (snapshot_row snapshot)
  HeadRow : (dataset : Dataset) → Contains pool.datasets dataset → IsRow pool (head_row pool.number dataset)
  PartialRow : (partial : Partial) → Contains pool.partials partial → IsRow pool (partial_row pool.number partial)

module _ (pool : Pool) where
  abbrev heads : List Row
  heads = map (head_row pool.number) pool.datasets

  abbrev partials : List Row
  partials = map (partial_row pool.number) pool.partials

  pub snapshot_has_row : (snapshot : Snapshot) → Contains pool.snapshots snapshot → Contains (rows pool) (snapshot_row snapshot)
  snapshot_has_row snapshot there =
      Contains-append_left (map snapshot_row pool.snapshots) (heads ++ partials) (snapshot_row snapshot) (contains-map snapshot_row pool.snapshots snapshot there)

  pub head_has_row : (dataset : Dataset) → Contains pool.datasets dataset → Contains (rows pool) (head_row pool.number dataset)
  head_has_row dataset there =
      Contains-append_right (map snapshot_row pool.snapshots) (heads ++ partials) (head_row pool.number dataset)
      (Contains-append_left heads partials (head_row pool.number dataset) (contains-map (head_row pool.number) pool.datasets dataset there))

  pub partial_has_row : (partial : Partial) → Contains pool.partials partial → Contains (rows pool) (partial_row pool.number partial)
  partial_has_row partial there =
      Contains-append_right (map snapshot_row pool.snapshots) (heads ++ partials) (partial_row pool.number partial)
      (Contains-append_right heads partials (partial_row pool.number partial) (contains-map (partial_row pool.number) pool.partials partial there))

  pub row_cases : (row : Row) → Contains (rows pool) row → IsRow pool row
  row_cases row there = elim (Contains-append_cases (map snapshot_row pool.snapshots) (heads ++ partials) row there) [
    | inl h ↦ let found = map_contains snapshot_row pool.snapshots row h in subst (IsRow pool) found.2 (SnapshotRow found.0 found.1)
    | inr h ↦ elim (Contains-append_cases heads partials row h) [
      | inl k ↦ let found = map_contains (head_row pool.number) pool.datasets row k in subst (IsRow pool) found.2 (HeadRow found.0 found.1)
      | inr k ↦ let found = map_contains (partial_row pool.number) pool.partials row k in subst (IsRow pool) found.2 (PartialRow found.0 found.1)
    ]
  ]

-- the row of the snapshot that a source is, or was made of
pub record IsOwnRow (pool : Pool) (source : Source) (row : Row) : Type 0 where
  pub snapshot : Snapshot
  pub there : Contains pool.snapshots snapshot
  pub own : IsOwn source snapshot
  pub is : snapshot_row snapshot ≡ row

-- a source stands before a row, or the row is its own
abbrev pub StandsBy : Pool → Source → Row → Type 0
StandsBy pool source row = IsBefore pool source row.place ⊎ IsOwnRow pool source row

-- a row of the next pool comes from one of the pool: what is in both pools and stands before it stood before that one, or that one is its
-- own; and the dates of that one, and whatever it remembered and agreed with, stay
pub record ComesFrom (pool other : Pool) (row : Row) : Type 0 where
  pub old : Row
  pub there : Contains (rows pool) old
  pub before : (source : Source) → IsIn pool source → IsIn other source → IsBefore other source row.place → StandsBy pool source old
  pub remembers : (number : ℕ) (state : State) → number ≤ pool.number → Remembers old.objects number state → Remembers row.objects number state
  pub agrees : (earlier : Snapshot) → earlier.number ≤ pool.number → Agrees earlier old.objects → Agrees earlier row.objects
  pub dated : DatedUpTo old.number old.objects → DatedUpTo row.number row.objects

-- a row of the next pool that no source of the pool stands before
pub record IsFirst (pool other : Pool) (row : Row) : Type 0 where
  pub none : (source : Source) → HasDataset pool (dataset_of_source source) → IsBefore other source row.place → ⊥
  pub dated : DatedUpTo row.number row.objects

-- a row comes from one of the pool, or is a first
abbrev pub Descends : Pool → Pool → Row → Type 0
Descends pool other row = ComesFrom pool other row ⊎ IsFirst pool other row

-- a bookmark of the pool whose dataset is still there, or a new one
abbrev pub IsNextBookmark : Pool → Pool → Bookmark → Type 0
IsNextBookmark pool other bookmark =
    (Contains pool.bookmarks bookmark × (HasDataset pool (dataset_of_bookmark bookmark) → HasDataset other (dataset_of_bookmark bookmark))) ⊎ IsBookmarkOf other bookmark

-- a snapshot of the pool, or a new one of a dataset that was there
abbrev pub IsNextSnapshot : Pool → Pool → Snapshot → Type 0
IsNextSnapshot pool other snapshot = Contains pool.snapshots snapshot ⊎ ((snapshot.number ≡ other.number) × HasDataset pool (dataset_of_snapshot snapshot))

-- a pool of the next commit: its old datasets have no new origin, and its bookmarks, snapshots and rows are those of the pool or of the commit
pub record IsNext (pool other : Pool) : Type 0 where
  pub number : other.number ≡ pool.number + 1
  pub origins : HasOldOrigins pool other
  pub bookmarks : (bookmark : Bookmark) → Contains other.bookmarks bookmark → IsNextBookmark pool other bookmark
  pub snapshots : (snapshot : Snapshot) → Contains other.snapshots snapshot → IsNextSnapshot pool other snapshot
  pub rows : (row : Row) → Contains (rows other) row → Descends pool other row

-- a later snapshot of a dataset has a greater number
abbrev pub Rises : Snapshot → Snapshot → Type 0
Rises a b = dataset_of_snapshot a ≡ dataset_of_snapshot b → a.number < b.number

-- snapshots that rise, are of one dataset and have one number are one
pub same_snapshot : (snapshots : List Snapshot) → AllPairs Rises snapshots → (a b : Snapshot)
    → Contains snapshots a → Contains snapshots b → dataset_of_snapshot a ≡ dataset_of_snapshot b → a.number ≡ b.number → a ≡ b
same_snapshot snapshots rise a b here there of same =
    same_element Rises snapshots rise a b here there (λ h. let l = h of in omega arith) (λ h. let l = h (sym of) in omega arith)

-- a snapshot agrees with its own state
pub agrees_itself : (snapshot : Snapshot) → Agrees snapshot snapshot.objects
agrees_itself snapshot = record { numbers = λ k n d. refl; number_dates = λ k n d. refl; indices = λ k i n l d. refl; index_dates = λ k i n l d. refl }

-- a source of a sound pool has its dataset there
pub source_dataset : (pool : Pool) → IsLinked pool → Sound pool → (source : Source) → IsIn pool source → HasDataset pool (dataset_of_source source)
source_dataset pool linked sound (OfSnapshot snapshot) here = All-contains (λ s. HasDataset pool (dataset_of_snapshot s)) pool.snapshots snapshot linked.snapshots here
source_dataset pool linked sound (OfBookmark bookmark) here = (All-contains (IsBookmarkOf pool) pool.bookmarks bookmark sound.bookmarks here).dataset

module _ (pool other : Pool) (linked : IsLinked pool) (sound : Sound pool) (next : IsNext pool other) where
  -- a source of the pool has a number up to the pool's
  old_number : (snapshot : Snapshot) → Contains pool.snapshots snapshot → snapshot.number ≤ pool.number
  old_number snapshot here = All-contains (λ s. s.number ≤ pool.number) pool.snapshots snapshot sound.dated.numbers here

  source_number : (source : Source) → IsIn pool source → number_of_source source ≤ pool.number
  source_number (OfSnapshot snapshot) here = old_number snapshot here
  source_number (OfBookmark bookmark) here = (All-contains (IsBookmarkOf pool) pool.bookmarks bookmark sound.bookmarks here).number

  -- a snapshot of the pool agrees with each row that it stands by
  by_agrees : (earlier : Snapshot) (row : Row) → Contains pool.snapshots earlier → Contains (rows pool) row → StandsBy pool (OfSnapshot earlier) row → Agrees earlier row.objects
  by_agrees earlier row here there (inl before) = sound.agree earlier row here there before
  by_agrees earlier row here there (inr own) =
      let same : earlier ≡ own.snapshot = same_snapshot pool.snapshots sound.dated.rise earlier own.snapshot here own.there own.own.dataset own.own.number in
      subst (λ (r : Row). Agrees earlier r.objects) own.is (subst (λ (s : Snapshot). Agrees earlier s.objects) same (agrees_itself earlier))

  -- so it does with each row that it stands before now
  old_agrees : (earlier : Snapshot) (row : Row) → Contains pool.snapshots earlier → Contains other.snapshots earlier → IsBefore other (OfSnapshot earlier) row.place
      → Descends pool other row → Agrees earlier row.objects
  old_agrees earlier row here there before (inl from) =
      from.agrees earlier (old_number earlier here) (by_agrees earlier from.old here from.there (from.before (OfSnapshot earlier) here there before))
  old_agrees earlier row here there before (inr first) = absurd (first.none (OfSnapshot earlier) (source_dataset pool linked sound (OfSnapshot earlier) here) before)

  -- each row is dated up to its number
  row_dated : (row : Row) → Descends pool other row → DatedUpTo row.number row.objects
  row_dated row (inl from) = from.dated (All-contains (λ r. DatedUpTo r.number r.objects) (rows pool) from.old sound.dated.states from.there)
  row_dated row (inr first) = first.dated

  next_number : (snapshot : Snapshot) → IsNextSnapshot pool other snapshot → snapshot.number ≤ other.number
  next_number snapshot (inl here) = let l = old_number snapshot here in let n = next.number in omega arith
  next_number snapshot (inr new) = omega (arith, new.0)

  next_above : (origin later : Snapshot) → IsOrigin other origin (dataset_of_snapshot later) → IsNextSnapshot pool other later → origin.number < later.number
  next_above origin later is (inl here) =
      sound.dated.above origin later here (next.origins origin (dataset_of_snapshot later) (source_dataset pool linked sound (OfSnapshot later) here) is)
  next_above origin later is (inr new) =
      let was = next.origins origin (dataset_of_snapshot later) new.1 is in
      let l = old_number origin was.snapshot_there in
      let n = next.number in omega (arith, new.0)

  -- no bookmark has the number of a new snapshot
  next_guid : (bookmark : Bookmark) → IsBookmarkOf pool bookmark → (snapshot : Snapshot) → dataset_of_snapshot snapshot ≡ dataset_of_bookmark bookmark
      → snapshot.number ≡ bookmark.number → IsNextSnapshot pool other snapshot → bookmark.guid ≡ snapshot.guid
  next_guid bookmark h snapshot of same (inl here) = h.guid snapshot here of same
  next_guid bookmark h snapshot of same (inr new) = let l = h.number in let n = next.number in absurd (omega (arith, new.0))

  next_bookmark : (bookmark : Bookmark) → IsNextBookmark pool other bookmark → IsBookmarkOf other bookmark
  next_bookmark bookmark (inl old) =
      let h = All-contains (IsBookmarkOf pool) pool.bookmarks bookmark sound.bookmarks old.0 in record {
        dataset = old.1 h.dataset;
        above = λ origin is. h.above origin (next.origins origin (dataset_of_bookmark bookmark) h.dataset is);
        number = let l = h.number in let n = next.number in omega arith;
        guid = λ snapshot there of same. next_guid bookmark h snapshot of same (next.snapshots snapshot there);
      }
  next_bookmark bookmark (inr new) = new

  -- the next pool is sound where its snapshots rise, and the new ones agree with what they stand before
  pub next_sound : AllPairs Rises other.snapshots
      → ((earlier : Snapshot) (row : Row) → Contains other.snapshots earlier → earlier.number ≡ other.number → Contains (rows other) row → IsBefore other (OfSnapshot earlier) row.place
      → Agrees earlier row.objects)
      → Sound other
  next_sound rise new = record {
    agree = λ earlier row here there before. elim (next.snapshots earlier here) [
      | inl old ↦ old_agrees earlier row old here before (next.rows row there)
      | inr made ↦ new earlier row here made.0 there before
    ];
    dated = record {
      states = All-from_contains (λ r. DatedUpTo r.number r.objects) (rows other) (λ row there. row_dated row (next.rows row there));
      numbers = All-from_contains (λ s. s.number ≤ other.number) other.snapshots (λ s there. next_number s (next.snapshots s there));
      rise = rise;
      above = λ origin later there is. next_above origin later is (next.snapshots later there);
    };
    bookmarks = All-from_contains (IsBookmarkOf other) other.bookmarks (λ b there. next_bookmark b (next.bookmarks b there));
  }

  -- what a source that is in both pools remembers in the pool, it remembers in the next one
  by_remembers : (source : Source) (state : State) → SourceRemembers pool source state → (row : Row) → Contains (rows pool) row
      → StandsBy pool source row → Remembers row.objects (number_of_source source) state
  by_remembers source state h row there (inl before) = h.later row there before
  by_remembers source state h row there (inr own) =
      subst (λ (r : Row). Remembers r.objects (number_of_source source) state) own.is (h.own own.snapshot own.there own.own)

  later_remembers : (source : Source) (state : State) → IsIn pool source → IsIn other source → SourceRemembers pool source state → (row : Row)
      → IsBefore other source row.place → Descends pool other row → Remembers row.objects (number_of_source source) state
  later_remembers source state here there h row before (inl from) =
      from.remembers (number_of_source source) state (source_number source here) (by_remembers source state h from.old from.there (from.before source here there before))
  later_remembers source state here there h row before (inr first) = absurd (first.none source (source_dataset pool linked sound source here) before)

  own_remembers : (source : Source) (state : State) → IsIn pool source → SourceRemembers pool source state → (snapshot : Snapshot) → IsOwn source snapshot
      → IsNextSnapshot pool other snapshot → Remembers snapshot.objects (number_of_source source) state
  own_remembers source state here h snapshot own (inl old) = h.own snapshot old own
  own_remembers source state here h snapshot own (inr new) =
      let l = source_number source here in
      let m = own.number in
      let n = next.number in absurd (omega (arith, new.0))

  pub next_remembers : (source : Source) (state : State) → IsIn pool source → IsIn other source → SourceRemembers pool source state → SourceRemembers other source state
  next_remembers source state here there h = record {
    own = λ snapshot is own. own_remembers source state here h snapshot own (next.snapshots snapshot is);
    later = λ row is before. later_remembers source state here there h row before (next.rows row is);
  }

-- what stays of a pool in the next commit's: snapshots, heads and partial states come from themselves
module _ (pool other : Pool) (linked : IsLinked pool) (origins : HasOldOrigins pool other) (number : other.number ≡ pool.number + 1) where
  owner : (snapshot : Snapshot) → Contains pool.snapshots snapshot → HasDataset pool (dataset_of_snapshot snapshot)
  owner snapshot there = All-contains (λ s. HasDataset pool (dataset_of_snapshot s)) pool.snapshots snapshot linked.snapshots there

  stood : (source : Source) (name : List ℕ) (bound : Option ℕ) → HasDataset pool name → StandsBefore other source name bound → StandsBefore pool source name bound
  stood source name bound has before = stood_before pool other source linked origins name bound has before

  higher : (state : DatedState) → DatedUpTo pool.number state → DatedUpTo other.number state
  higher state h = dated_higher pool.number other.number (omega (arith, number)) state h

  pub snapshot_stays : (snapshot : Snapshot) → Contains pool.snapshots snapshot → ComesFrom pool other (snapshot_row snapshot)
  snapshot_stays snapshot there = record {
    old = snapshot_row snapshot;
    there = snapshot_has_row pool snapshot there;
    before = λ source here is before. inl (stood source (dataset_of_snapshot snapshot) (Some snapshot.number) (owner snapshot there) before);
    remembers = λ n state l h. h;
    agrees = λ earlier l h. h;
    dated = λ h. h;
  }

  pub head_stays : (dataset : Dataset) → Contains pool.datasets dataset → ComesFrom pool other (head_row other.number dataset)
  head_stays dataset there = record {
    old = head_row pool.number dataset;
    there = head_has_row pool dataset there;
    before = λ source here is before. inl (stood source dataset.name None (dataset, there, refl) before);
    remembers = λ n state l h. h;
    agrees = λ earlier l h. h;
    dated = higher dataset.head;
  }

  pub partial_stays : (partial : Partial) → Contains pool.partials partial → ((base : Snapshot) → IsBase other base partial → IsBase pool base partial)
      → (HasDataset other partial.target → HasDataset pool partial.target) → (HasDataset pool partial.target → HasDataset other partial.target)
      → ComesFrom pool other (partial_row other.number partial)
  partial_stays partial there bases target target_back = record {
    old = partial_row pool.number partial;
    there = partial_has_row pool partial there;
    before = λ source here is before. inl (before_partial_on other pool source partial (record {
      bases = bases;
      target = target;
      target_back = target_back;
      before_target = λ from has. stood from partial.target None has;
      before_base = λ from base of. stood from (dataset_of_snapshot base) (Some base.number) (owner base of.there);
    }) before);
    remembers = λ n state l h. h;
    agrees = λ earlier l h. h;
    dated = higher partial.objects;
  }
