-- Which snapshots and bookmarks stand before a snapshot, a head or a partial state.
use Rattle.std.specs.Prelude.{ℕ, ◌<◌, ◌≡◌, ◌⊎◌, List, Option, Some, None, Contains}
use Rattle.zst_model.specs.pools.Pool.{Pool, Dataset, Snapshot, Bookmark, Partial, HasDataset, dataset_of_snapshot, dataset_of_bookmark}

-- a number below a bound; every number is below no bound
abbrev pub IsBelow : ℕ → Option ℕ → Type 0
IsBelow number None = Unit {0}
IsBelow number (Some bound) = number < bound

-- a snapshot is the origin of a dataset
pub record IsOrigin (pool : Pool) (origin : Snapshot) (name : List ℕ) : Type 0 where
  pub dataset : Dataset
  pub there : Contains pool.datasets dataset
  pub named : dataset.name ≡ name
  pub snapshot_there : Contains pool.snapshots origin
  pub is_origin : dataset.origin ≡ Some origin.name

-- a snapshot is the base of a partial state
pub record IsBase (pool : Pool) (base : Snapshot) (partial : Partial) : Type 0 where
  pub there : Contains pool.snapshots base
  pub is_base : partial.base ≡ Some base.name

-- a bookmark was made of this snapshot of this dataset
pub record IsMadeOf (bookmark : Bookmark) (snapshot : Snapshot) : Type 0 where
  pub dataset : dataset_of_bookmark bookmark ≡ dataset_of_snapshot snapshot
  pub guid : bookmark.guid ≡ snapshot.guid
  pub number : bookmark.number ≡ snapshot.number

-- what an increment may be sent from: a snapshot or a bookmark
pub data Source : Type 0 where
  OfSnapshot : Snapshot → Source
  OfBookmark : Bookmark → Source

-- the dataset that a source is of, and its number
abbrev pub dataset_of_source : Source → List ℕ
dataset_of_source (OfSnapshot snapshot) = dataset_of_snapshot snapshot
dataset_of_source (OfBookmark bookmark) = dataset_of_bookmark bookmark

abbrev pub number_of_source : Source → ℕ
number_of_source (OfSnapshot snapshot) = snapshot.number
number_of_source (OfBookmark bookmark) = bookmark.number

-- a source is one of a pool
abbrev pub IsIn : Pool → Source → Type 0
IsIn pool (OfSnapshot snapshot) = Contains pool.snapshots snapshot
IsIn pool (OfBookmark bookmark) = Contains pool.bookmarks bookmark

-- a source is this snapshot, or was made of it
abbrev pub Marks : Source → Snapshot → Type 0
Marks (OfSnapshot snapshot) marked = snapshot ≡ marked
Marks (OfBookmark bookmark) marked = IsMadeOf bookmark marked

-- a source stands before what a dataset has at a number (none: its head): it is an earlier one of the dataset, or marks the dataset's origin, or stands before that origin
pub data StandsBefore (pool : Pool) (source : Source) : List ℕ → Option ℕ → Type 0 where
  Earlier : (name : List ℕ) (bound : Option ℕ) → dataset_of_source source ≡ name → IsBelow (number_of_source source) bound → StandsBefore pool source name bound
  AtOrigin : (name : List ℕ) (bound : Option ℕ) (origin : Snapshot) → IsOrigin pool origin name → Marks source origin → StandsBefore pool source name bound
  BeforeOrigin : (name : List ℕ) (bound : Option ℕ) (origin : Snapshot) → IsOrigin pool origin name → StandsBefore pool source (dataset_of_snapshot origin) (Some origin.number) → StandsBefore pool source name bound

-- a source stands before the head of a partial state's target, which is there
pub record IsBeforeTarget (pool : Pool) (source : Source) (partial : Partial) : Type 0 where
  pub target : HasDataset pool partial.target
  pub before : StandsBefore pool source partial.target None

-- a source stands before a clone of a partial state's base: it marks the base, or stands before it
pub record IsBeforeClone (pool : Pool) (source : Source) (partial : Partial) : Type 0 where
  pub base : Snapshot
  pub is_base : IsBase pool base partial
  pub before : Marks source base ⊎ StandsBefore pool source (dataset_of_snapshot base) (Some base.number)

-- where a partial state's base counts: for a snapshot always, for a bookmark where the target is absent
abbrev pub BaseCounts : Pool → Source → Partial → Type 0
BaseCounts pool (OfSnapshot snapshot) partial = Unit {0}
BaseCounts pool (OfBookmark bookmark) partial = HasDataset pool partial.target → ⊥

-- a source stands before a partial state's objects: it does so before the target's head, or, where the base counts, before a clone of the base
abbrev pub IsBeforePartial : Pool → Source → Partial → Type 0
IsBeforePartial pool source partial = IsBeforeTarget pool source partial ⊎ (BaseCounts pool source partial × IsBeforeClone pool source partial)

-- where a dated state stands: it is what a dataset has at a number (none: its head), or what a partial state has so far
pub data Place : Type 0 where
  InDataset : List ℕ → Option ℕ → Place
  InPartial : Partial → Place

-- a source stands before a place
abbrev pub IsBefore : Pool → Source → Place → Type 0
IsBefore pool source (InDataset name bound) = StandsBefore pool source name bound
IsBefore pool source (InPartial partial) = IsBeforePartial pool source partial
