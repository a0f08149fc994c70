-- The places at which a pool isn't sound: for each part of soundness what a place is at which it fails, as a report names it.
use Rattle.std.specs.Prelude.{◌≡◌, ◌≢◌, ◌⊎◌, ℕ, ◌<◌, ◌≤◌, true, List, length, HoldsAt, Contains}
use Rattle.zst_model.specs.fields.Lists.{has_pair}
use Rattle.zst_model.specs.pools.Ancestry.{IsOrigin, OfBookmark}
use Rattle.zst_model.specs.pools.Pool.{Pool, Dataset, Snapshot, Bookmark, Partial, dataset_of_snapshot, dataset_of_bookmark}
use Rattle.zst_model.specs.pools.RedSet.{objects_of, red_set}
use Rattle.zst_model.specs.pools.Rows.{Row, snapshot_row, head_row, partial_row}
use Rattle.zst_model.specs.pools.Soundness.{IsBookmarkOf}
use Rattle.zst_model.specs.states.DatedState.{DatedState}
use Rattle.zst_model.specs.states.State.{attr_at, content_at, is_number, index_bound}
use Rattle.zst_laws.specs.NearestSnapshots.{IsNearest}
use Rattle.zst_laws.specs.RedactionLists.{AreRedactions}
use Rattle.zst_laws.specs.RememberedStates.{IsOwn}

-- a state of a pool by the name that a report has for it: a snapshot's own, for a head its dataset's, and for a partial state that of the dataset which it is for
pub data IsStateNamed (pool : Pool) : List ℕ → Row → Type 0 where
  SnapshotState : (snapshot : Snapshot) → Contains pool.snapshots snapshot → IsStateNamed pool snapshot.name (snapshot_row snapshot)
  HeadState : (dataset : Dataset) → Contains pool.datasets dataset → IsStateNamed pool dataset.name (head_row pool.number dataset)
  PartialState : (partial : Partial) → Contains pool.partials partial → IsStateNamed pool partial.target (partial_row pool.number partial)

-- the block that a report names where it means the number itself: the bound of indices, which is none of them
abbrev pub number_itself : ℕ
number_itself = index_bound

-- a state dates this above the number that none of its dates exceeds: the object's number itself, or an index of it
abbrev pub IsLate : Row → ℕ → ℕ → Type 0
IsLate row k block =
    ((block ≡ number_itself) × (row.number < row.objects.number_date k))
    ⊎ ((block < index_bound) × (row.number < row.objects.index_date k block))

-- a later state dates the object's number itself at or below the snapshot's number, and has there another content or another date than the snapshot
pub record NumberDiffers (earlier : Snapshot) (later : DatedState) (k : ℕ) : Type 0 where
  pub remembered : later.number_date k ≤ earlier.number
  pub other : (attr_at (earlier.objects.state k) ≢ attr_at (later.state k)) ⊎ (earlier.objects.number_date k ≢ later.number_date k)

-- so it is with an index
pub record IndexDiffers (earlier : Snapshot) (later : DatedState) (k i : ℕ) : Type 0 where
  pub remembered : later.index_date k i ≤ earlier.number
  pub other : (content_at (earlier.objects.state k) i ≢ content_at (later.state k) i) ⊎ (earlier.objects.index_date k i ≢ later.index_date k i)

-- with one of them, as the block tells
abbrev pub IsOther : Snapshot → DatedState → ℕ → ℕ → Type 0
IsOther earlier later k block = ((block ≡ number_itself) × NumberDiffers earlier later k) ⊎ ((block < index_bound) × IndexDiffers earlier later k block)

-- in a list of snapshots one stands somewhere before the other
pub record StandsAhead (snapshots : List Snapshot) (one other : Snapshot) : Type 0 where
  pub place : ℕ
  pub behind : ℕ
  pub rise : place < behind
  pub inside : behind < length snapshots
  pub one_at : HoldsAt (λ snapshot. snapshot ≡ one) snapshots place
  pub other_at : HoldsAt (λ snapshot. snapshot ≡ other) snapshots behind

-- a snapshot's number is above the pool's, isn't above that of a snapshot of its dataset which stands before it in the directory, or isn't above that of its dataset's origin
pub data IsMisnumbered (pool : Pool) (snapshot : Snapshot) : Type 0 where
  AbovePool : pool.number < snapshot.number → IsMisnumbered pool snapshot
  NotAboveOther : (other : Snapshot) → StandsAhead pool.snapshots other snapshot → dataset_of_snapshot other ≡ dataset_of_snapshot snapshot → snapshot.number ≤ other.number → IsMisnumbered pool snapshot
  NotAboveOrigin : (origin : Snapshot) → IsOrigin pool origin (dataset_of_snapshot snapshot) → snapshot.number ≤ origin.number → IsMisnumbered pool snapshot

module _ (pool : Pool) (earlier later : List ℕ) (object block : ℕ) where
  -- part 2 fails at a date: the name of the state, twice, the object and the index
  pub record LateDate : Type 0 where
    pub state : Row
    pub named : IsStateNamed pool earlier state
    pub twice : later ≡ earlier
    pub number : is_number object ≡ true
    pub late : IsLate state object block

  -- part 2 fails at a snapshot's number: the name of the snapshot, twice
  pub record LateSnapshot : Type 0 where
    pub snapshot : Snapshot
    pub there : Contains pool.snapshots snapshot
    pub named : snapshot.name ≡ earlier
    pub twice : later ≡ earlier
    pub no_object : object ≡ 0
    pub no_block : block ≡ 0
    pub misnumbered : IsMisnumbered pool snapshot

  -- part 3 fails at a bookmark: its name and that of its dataset
  pub record BadBookmark : Type 0 where
    pub bookmark : Bookmark
    pub there : Contains pool.bookmarks bookmark
    pub named : bookmark.name ≡ earlier
    pub dataset : dataset_of_bookmark bookmark ≡ later
    pub no_object : object ≡ 0
    pub no_block : block ≡ 0
    pub fails : ¬ (IsBookmarkOf pool bookmark)

  -- part 1 fails between a state and a snapshot that is the nearest before it, of which a partial state may have two: their names, the snapshot's first, the object and the index
  pub record Differs : Type 0 where
    pub snapshot : Snapshot
    pub state : Row
    pub nearest : IsNearest pool snapshot state.place
    pub snapshot_named : snapshot.name ≡ earlier
    pub state_named : IsStateNamed pool later state
    pub number : is_number object ≡ true
    pub differs : IsOther snapshot state.objects object block

  -- part 4 fails at a redaction bookmark: its name, that of its snapshot, and a pair that it lists and shouldn't, or should list and doesn't
  pub record ListDiffers : Type 0 where
    pub bookmark : Bookmark
    pub there : Contains pool.bookmarks bookmark
    pub own : Snapshot
    pub own_there : Contains pool.snapshots own
    pub named : bookmark.name ≡ earlier
    pub own_named : own.name ≡ later
    pub is_own : IsOwn (OfBookmark bookmark) own
    pub lists : 0 < length bookmark.redact
    pub redactions : List Snapshot
    pub are : AreRedactions pool own bookmark.redact redactions
    pub differs : has_pair bookmark.runs object block ≢ red_set own.objects.state own.number (objects_of redactions) object block
