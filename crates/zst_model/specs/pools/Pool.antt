-- What a pool is, with no place on a disk in it.
use Rattle.std.specs.Prelude.{ℕ, ◌^◌, ◌<◌, ◌≤◌, ◌≡◌, ◌≢◌, ◌⊎◌, Bool, true, false, ◌&&◌, ◌||◌, ◌==◌, bit_and, nat_lt, List, [], ◌∷◌, ◌++◌, length, Option, None, IfSome, find, All, AllPairs, Contains, bytes_eq, if◌then◌else◌}
use Rattle.std.specs.Ordering.{nat_cmp, is_lt}
use Rattle.std.specs.Cmp.Lexicographic.{slice_cmp}
use Rattle.zst_names.specs.Names.{IsDataset, IsSnapshot, IsBookmark, IsComponent, dataset_of}
use Rattle.zst_model.specs.declared.states.cell.Run.{Run}
use Rattle.zst_model.specs.declared.sends.header.Header.{Header}
use Rattle.zst_model.specs.declared.sends.header.Point.{Point}
use Rattle.zst_model.specs.states.DatedState.{DatedState}
use Rattle.zst_model.specs.states.State.{IsState, no_objects}
use Rattle.zst_model.specs.fields.Guids.{IsGuidSet}
use Rattle.zst_model.specs.fields.Lists.{IsRunList}
use Rattle.zst_model.specs.sends.Features.{redacts, resuming}
use Rattle.zst_model.specs.pools.Limits.{last_number, last_guid}

-- a dataset: its name, its kind (2 a file system, 3 a volume), the name of the snapshot that it is a clone of, its head, and the head's redaction guids
pub record Dataset : Type 0 where
  pub name : List ℕ
  pub kind : ℕ
  pub origin : Option (List ℕ)
  pub head : DatedState
  pub redact : List ℕ

-- a snapshot: its name, its guid, its time in seconds, the number of the commit that made it, the head as it then was, and its redaction guids
pub record Snapshot : Type 0 where
  pub name : List ℕ
  pub guid : ℕ
  pub time : ℕ
  pub number : ℕ
  pub objects : DatedState
  pub redact : List ℕ

-- a bookmark: its name, the guid, time and number of the snapshot that it was made of, and, where it is a redaction bookmark, the guids of its redaction snapshots and its list
pub record Bookmark : Type 0 where
  pub name : List ℕ
  pub guid : ℕ
  pub time : ℕ
  pub number : ℕ
  pub redact : List ℕ
  pub runs : List Run

-- what a receive that isn't complete has so far: the dataset that it is for, the snapshot's component, whether it is kept where its session ends, the stream's header, its base, its objects and its point
pub record Partial : Type 0 where
  pub target : List ℕ
  pub component : List ℕ
  pub keep : Bool
  pub header : Header
  pub base : Option (List ℕ)
  pub objects : DatedState
  pub point : Point

-- a pool: its id, the number of its last commit, its guid counter, and its datasets, snapshots, bookmarks and partial states
pub record Pool : Type 0 where
  pub id : ℕ
  pub number : ℕ
  pub guids : ℕ
  pub datasets : List Dataset
  pub snapshots : List Snapshot
  pub bookmarks : List Bookmark
  pub partials : List Partial

-- the dataset that a snapshot is of, and the one that a bookmark is of
abbrev pub dataset_of_snapshot : Snapshot → List ℕ
dataset_of_snapshot snapshot = dataset_of 64 snapshot.name

abbrev pub dataset_of_bookmark : Bookmark → List ℕ
dataset_of_bookmark bookmark = dataset_of 35 bookmark.name

-- the dataset of this name, the snapshot, the bookmark, and the partial state of this target
abbrev pub dataset_named : List ℕ → Pool → Option Dataset
dataset_named name pool = find (λ dataset. bytes_eq dataset.name name) pool.datasets

abbrev pub snapshot_named : List ℕ → Pool → Option Snapshot
snapshot_named name pool = find (λ snapshot. bytes_eq snapshot.name name) pool.snapshots

abbrev pub bookmark_named : List ℕ → Pool → Option Bookmark
bookmark_named name pool = find (λ bookmark. bytes_eq bookmark.name name) pool.bookmarks

abbrev pub partial_of : List ℕ → Pool → Option Partial
partial_of target pool = find (λ partial. bytes_eq partial.target target) pool.partials

-- whether a name stands before another by its bytes
abbrev pub is_before : List ℕ → List ℕ → Bool
is_before a b = is_lt (slice_cmp nat_cmp a b)

-- whether a snapshot stands before another in the directory: by dataset, then by number
abbrev pub snapshot_is_before : Snapshot → Snapshot → Bool
snapshot_is_before a b =
    is_before (dataset_of_snapshot a) (dataset_of_snapshot b)
    || (bytes_eq (dataset_of_snapshot a) (dataset_of_snapshot b) && nat_lt a.number b.number)

-- a row put in its place: before the first that it stands before
unfoldable pub inserted : {A : Type 0} → (A → A → Bool) → A → List A → List A
inserted comes_before row [] = row ∷ []
inserted comes_before row (other ∷ rest) = if comes_before row other then row ∷ other ∷ rest else other ∷ inserted comes_before row rest

-- a state that nothing touched yet
abbrev pub untouched : DatedState
untouched = record { state = no_objects; number_date = λ k. 0; index_date = λ k i. 0 }

-- what a directory says of its names: rows stand in their order, and their names differ and are names
pub record IsNamed (pool : Pool) : Type 0 where
  pub dataset_names : All (λ dataset. IsDataset dataset.name) pool.datasets
  pub datasets : AllPairs (λ a b. is_before a.name b.name ≡ true) pool.datasets
  pub snapshot_names : All (λ snapshot. IsSnapshot snapshot.name) pool.snapshots
  pub snapshots : AllPairs (λ a b. snapshot_is_before b a ≡ false) pool.snapshots
  pub snapshots_differ : AllPairs (λ a b. a.name ≢ b.name) pool.snapshots
  pub bookmark_names : All (λ bookmark. IsBookmark bookmark.name) pool.bookmarks
  pub bookmarks : AllPairs (λ a b. is_before a.name b.name ≡ true) pool.bookmarks
  pub targets : All (λ partial. IsDataset partial.target × IsComponent partial.component) pool.partials
  pub partials : AllPairs (λ a b. is_before a.target b.target ≡ true) pool.partials

-- some snapshot of the pool has this name
abbrev pub HasSnapshot : Pool → List ℕ → Type 0
HasSnapshot pool name = (snapshot : Snapshot) × Contains pool.snapshots snapshot × (snapshot.name ≡ name)

-- some dataset of the pool has this name
abbrev pub HasDataset : Pool → List ℕ → Type 0
HasDataset pool name = (dataset : Dataset) × Contains pool.datasets dataset × (dataset.name ≡ name)

-- whose names are there: the dataset of each snapshot, and each origin and base. No dataset has a snapshot with the component that its partial state has.
pub record IsLinked (pool : Pool) : Type 0 where
  pub snapshots : All (λ snapshot. HasDataset pool (dataset_of_snapshot snapshot)) pool.snapshots
  pub origins : All (λ dataset. IfSome dataset.origin (HasSnapshot pool)) pool.datasets
  pub bases : All (λ partial. IfSome partial.base (HasSnapshot pool)) pool.partials
  pub components : All (λ partial. HasSnapshot pool (partial.target ++ 64 ∷ partial.component) → ⊥) pool.partials

-- a file system or a volume
abbrev pub IsKind : ℕ → Type 0
IsKind kind = (kind ≡ 2) ⊎ (kind ≡ 3)

-- a guid that a snapshot may have: 0 stands for no snapshot
abbrev pub IsGuid : ℕ → Type 0
IsGuid guid = (0 < guid) × (guid < 2 ^ 64)

-- a name that a stream can state: at most 255 bytes, none of them 0
pub record IsStatedName (name : List ℕ) : Type 0 where
  pub short : length name ≤ 255
  pub bytes : All (λ byte. byte < 2 ^ 8) name
  pub no_zero : ¬ (Contains name 0)

-- a header that a stream which isn't resumed can state: it has redaction guids exactly where it has REDACTED, and those of a source only where it has a source
pub record IsStated (header : Header) : Type 0 where
  pub kind : IsKind header.kind
  pub flags : header.flags < 2 ^ 32
  pub features : header.features < 2 ^ 30
  pub time : header.time < 2 ^ 64
  pub to : IsGuid header.to
  pub from : header.from < 2 ^ 64
  pub name : IsStatedName header.name
  pub redact : IsGuidSet header.redact
  pub from_redact : IsGuidSet header.from_redact
  pub resume : header.resume ≡ None
  pub unresumed : bit_and header.features resuming ≡ 0
  pub redacted : (bit_and header.features redacts == 0) ≡ (length header.redact == 0)
  pub source : 0 < length header.from_redact → 0 < header.from

-- a lawful pool: its numbers are in their ranges, its names are in order and there, its kinds are kinds, its guids are guids and their sets sets of 64 bits, its times fit 64 bits, its lists are lists, its headers can be stated, and its states are lawful
pub record IsPool (pool : Pool) : Type 0 where
  pub id : (0 < pool.id) × (pool.id < 2 ^ 31)
  pub number : pool.number ≤ last_number
  pub guids : pool.guids ≤ last_guid
  pub named : IsNamed pool
  pub linked : IsLinked pool
  pub datasets : All (λ dataset. IsKind dataset.kind × IsGuidSet dataset.redact × IsState dataset.head.state) pool.datasets
  pub snapshots : All (λ snapshot. IsGuid snapshot.guid × IsGuidSet snapshot.redact × IsState snapshot.objects.state × (snapshot.time < 2 ^ 64)) pool.snapshots
  pub bookmarks : All (λ bookmark. IsGuid bookmark.guid × IsGuidSet bookmark.redact × IsRunList bookmark.runs × (bookmark.time < 2 ^ 64)) pool.bookmarks
  pub partials : All (λ partial. IsStated partial.header × IsState partial.objects.state) pool.partials
