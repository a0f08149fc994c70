-- What a directory lists, and which directories are lawful.
use Rattle.std.specs.Prelude.{◌≡◌, ◌≢◌, ◌<◌, ◌≤◌, ◌^◌, ℕ, Bool, true, false, List, [], ◌∷◌, ◌++◌, map, if◌then◌else◌, IfSome, All, AllPairs, Contains, nat_lt, bytes_eq, not, ◌&&◌, ◌||◌}
use Rattle.zst_names.specs.Names.{IsDataset, IsSnapshot, IsBookmark, IsComponent, dataset_of}
use Rattle.zst_block.specs.Ptr.{PtrFits}
use Rattle.zst_model.specs.fields.Guids.{IsGuidSet}
use Rattle.zst_model.specs.pools.Pool.{is_before, inserted, IsKind, IsGuid, IsStated}
use Rattle.zst_tree.specs.Sets.{SetFits}
use Rattle.zst_tree.specs.declared.tree.ObjSet.{ObjSet}
use Rattle.zst_dir.specs.declared.rows.Dataset.{Dataset}
use Rattle.zst_dir.specs.declared.rows.Snapshot.{Snapshot}
use Rattle.zst_dir.specs.declared.rows.Bookmark.{Bookmark}
use Rattle.zst_dir.specs.declared.rows.Partial.{Partial}

-- the rows of a directory: four lists
pub record Rows : Type 0 where
  pub datasets : List Dataset
  pub snapshots : List Snapshot
  pub bookmarks : List Bookmark
  pub partials : List Partial

-- a directory without rows
abbrev pub no_rows : Rows
no_rows = record { datasets = []; snapshots = []; bookmarks = []; partials = [] }

-- whether a snapshot stands before another: by dataset, then by number
abbrev pub snapshot_is_before : Snapshot → Snapshot → Bool
snapshot_is_before a b =
    is_before (dataset_of 64 a.name) (dataset_of 64 b.name)
    || (bytes_eq (dataset_of 64 a.name) (dataset_of 64 b.name) && nat_lt a.number b.number)

-- a dataset with this head, where it has this name
abbrev pub with_head_at : List ℕ → ObjSet → Dataset → Dataset
with_head_at name head dataset = if bytes_eq dataset.name name then record dataset { head = head } else dataset

-- the datasets with another head of the one of this name
abbrev pub with_head : List ℕ → ObjSet → List Dataset → List Dataset
with_head name head datasets = map (with_head_at name head) datasets

-- a dataset with this head and these redaction guids, where it has this name
abbrev pub with_objects_at : List ℕ → ObjSet → List ℕ → Dataset → Dataset
with_objects_at name head redact dataset = if bytes_eq dataset.name name then record dataset { head = head; redact = redact } else dataset

-- the datasets with another head, and other redaction guids, of the one of this name
abbrev pub with_objects : List ℕ → ObjSet → List ℕ → List Dataset → List Dataset
with_objects name head redact datasets = map (with_objects_at name head redact) datasets

-- a partial state put in its place, by target
abbrev pub with_partial : Partial → List Partial → List Partial
with_partial partial partials = inserted (λ a b. is_before a.target b.target) partial partials

-- a partial state of this target, and one that isn't kept
abbrev pub is_for : List ℕ → Partial → Bool
is_for target partial = bytes_eq partial.target target

abbrev pub is_unkept_for : List ℕ → Partial → Bool
is_unkept_for target partial = bytes_eq partial.target target && not partial.keep

-- rows stand in their order, and their names differ
pub record AreOrdered (rows : Rows) : Type 0 where
  pub datasets : AllPairs (λ a b. is_before a.name b.name ≡ true) rows.datasets
  pub snapshots : AllPairs (λ a b. snapshot_is_before b a ≡ false) rows.snapshots
  pub snapshots_differ : AllPairs (λ a b. a.name ≢ b.name) rows.snapshots
  pub bookmarks : AllPairs (λ a b. is_before a.name b.name ≡ true) rows.bookmarks
  pub partials : AllPairs (λ a b. is_before a.target b.target ≡ true) rows.partials

-- some dataset has this name, and some snapshot
abbrev pub HasDataset : Rows → List ℕ → Type 0
HasDataset rows name = (dataset : Dataset) × Contains rows.datasets dataset × (dataset.name ≡ name)

abbrev pub HasSnapshot : Rows → List ℕ → Type 0
HasSnapshot rows name = (snapshot : Snapshot) × Contains rows.snapshots snapshot × (snapshot.name ≡ name)

-- the names that rows speak of are there, and no dataset has a snapshot with the component that its partial state has
pub record AreLinked (rows : Rows) : Type 0 where
  pub snapshots : All (λ snapshot. HasDataset rows (dataset_of 64 snapshot.name)) rows.snapshots
  pub origins : All (λ dataset. IfSome dataset.origin (HasSnapshot rows)) rows.datasets
  pub bases : All (λ partial. IfSome partial.base (HasSnapshot rows)) rows.partials
  pub components : All (λ partial. HasSnapshot rows (partial.target ++ 64 ∷ partial.snapshot) → ⊥) rows.partials

-- a dataset's row is in its ranges
pub record IsDatasetRow (dataset : Dataset) : Type 0 where
  pub name : IsDataset dataset.name
  pub kind : IsKind dataset.kind
  pub origin : IfSome dataset.origin IsSnapshot
  pub head : SetFits dataset.head
  pub redact : IsGuidSet dataset.redact

-- a snapshot's row is: its guid is one that a snapshot may have
pub record IsSnapshotRow (snapshot : Snapshot) : Type 0 where
  pub name : IsSnapshot snapshot.name
  pub guid : IsGuid snapshot.guid
  pub time : snapshot.time < 2 ^ 64
  pub number : snapshot.number < 2 ^ 64
  pub objects : SetFits snapshot.objects
  pub redact : IsGuidSet snapshot.redact

-- a bookmark's row is: its guid is that of a snapshot
pub record IsBookmarkRow (bookmark : Bookmark) : Type 0 where
  pub name : IsBookmark bookmark.name
  pub guid : IsGuid bookmark.guid
  pub time : bookmark.time < 2 ^ 64
  pub number : bookmark.number < 2 ^ 64
  pub redact : IsGuidSet bookmark.redact
  pub runs : bookmark.runs < 2 ^ 64
  pub levels : bookmark.levels ≤ 7
  pub root : PtrFits bookmark.root

-- a partial state's row is: its header is one that a stream can state
pub record IsPartialRow (partial : Partial) : Type 0 where
  pub target : IsDataset partial.target
  pub snapshot : IsComponent partial.snapshot
  pub header : IsStated partial.header
  pub base : IfSome partial.base IsSnapshot
  pub objects : SetFits partial.objects
  pub object : partial.point.object < 2 ^ 64
  pub offset : partial.point.offset < 2 ^ 64

-- a lawful directory
pub record IsLawful (rows : Rows) : Type 0 where
  pub ordered : AreOrdered rows
  pub linked : AreLinked rows
  pub datasets : All IsDatasetRow rows.datasets
  pub snapshots : All IsSnapshotRow rows.snapshots
  pub bookmarks : All IsBookmarkRow rows.bookmarks
  pub partials : All IsPartialRow rows.partials
