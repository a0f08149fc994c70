-- What the plans of clone, bookmark, rollback, destroy and abort say of their definitions.
use Rattle.std.specs.Prelude.{◌≡◌, ◌≢◌, ◌+◌, ◌&&◌, All, IfSome, ℕ, Bool, false, List, [], filter, length, is_some, not, bytes_eq, nat_lt, position, Option, Some, None, Result, Ok, Err}
use Rattle.std.specs.Borrow.{Bor}
use Rattle.zst_names.specs.Names.{dataset_of}
use Rattle.zst_block.specs.Ptr.{hole_of}
use Rattle.zst_model.specs.declared.refusals.subjects.Name.{Name}
use Rattle.zst_model.specs.declared.refusals.subjects.Name.TheVariants as names
use Rattle.zst_model.specs.declared.refusals.plan_fault.PlanFault.{PlanFault}
use Rattle.zst_model.specs.declared.refusals.refusal.Refusal.{Refusal}
use Rattle.zst_model.specs.refusals.Refusal.{refusal_of}
use Rattle.zst_model.specs.declared.refusals.faults.Quantity.TheVariants as quantities
use Rattle.zst_model.specs.states.AppliedItems.{unless}
use Rattle.zst_model.specs.pools.Pool.{Pool, bookmark_named, dataset_named, dataset_of_bookmark, dataset_of_snapshot, inserted, is_before, partial_of, snapshot_named}
use Rattle.zst_model.specs.pools.Pool as plain
use Rattle.zst_model.specs.pools.Step.{Stepped, bookmark_of, clone_of, committed, exists_already, is_one_of, limited, most_bookmarks, no_partial, no_such, not_ancestor, or_else, unless_used, with_bookmark, with_clone, with_destroyed, with_rollback, destroyed_by, rolled_back, unless_newer, without_bookmark, without_dataset, without_snapshot}
use Rattle.zst_dir.specs.Removal.{AreUnused, names_going, without}
use Rattle.zst_dir.specs.Rows.{HasDataset, HasSnapshot, IsBookmarkRow, IsDatasetRow, IsSnapshotRow, Rows, with_objects}
use Rattle.zst_dir.specs.declared.removal.Removal.{Removal}
use Rattle.zst_dir.specs.declared.removal.Removal.TheVariants as goes
use Rattle.zst_dir.specs.declared.rows.Bookmark.{Bookmark}
use Rattle.zst_dir.specs.declared.rows.Dataset.{Dataset}
use Rattle.zst_dir.specs.declared.rows.Snapshot.{Snapshot}
use Rattle.zst_dir.specs.RowNames.{StandAlike}
use Rattle.zst_pool.specs.Checks.{next_of, with_new}

-- whether there is a row of this name
abbrev pub is_there : Name → Rows → Bool
is_there (names.Dataset name) rows = is_some (position (λ dataset. bytes_eq dataset.name name) rows.datasets)
is_there (names.Snapshot name) rows = is_some (position (λ snapshot. bytes_eq snapshot.name name) rows.snapshots)
is_there (names.Bookmark name) rows = is_some (position (λ bookmark. bytes_eq bookmark.name name) rows.bookmarks)

-- what goes where this name is destroyed
abbrev pub going_of : Name → Removal
going_of (names.Dataset name) = goes.Dataset name
going_of (names.Snapshot name) = goes.Snapshot name
going_of (names.Bookmark name) = goes.Bookmark name

-- whether a partial state of this target is one of a dataset that goes, or that loses what is newer
abbrev pub is_on : Removal → List ℕ → Bool
is_on (goes.Dataset name) target = bytes_eq target name
is_on (goes.Snapshot name) target = false
is_on (goes.Bookmark name) target = false
is_on (goes.Newer name number) target = bytes_eq target name

-- whether a snapshot of this name may go
abbrev pub may_go : Removal → List ℕ → Bool
may_go (goes.Dataset dataset) name = bytes_eq (dataset_of 64 name) dataset
may_go (goes.Snapshot snapshot) name = bytes_eq name snapshot
may_go (goes.Bookmark bookmark) name = false
may_go (goes.Newer dataset number) name = bytes_eq (dataset_of 64 name) dataset

-- these are the snapshots that go, by their names
abbrev pub AreGoing : Removal → Rows → List plain.Snapshot → Type 0
AreGoing going rows gone = (name : Option (List ℕ)) → is_one_of gone name ≡ names_going going rows name

-- a pool without what goes
abbrev pub pool_without : Removal → Pool → Pool
pool_without (goes.Dataset name) pool = without_dataset name pool
pool_without (goes.Snapshot name) pool = without_snapshot name pool
pool_without (goes.Bookmark name) pool = without_bookmark name pool
pool_without (goes.Newer name number) pool = record pool {
  snapshots = filter (λ snapshot. not (bytes_eq (dataset_of_snapshot snapshot) name && nat_lt number snapshot.number)) pool.snapshots;
  bookmarks = filter (λ bookmark. not (bytes_eq (dataset_of_bookmark bookmark) name && nat_lt number bookmark.number)) pool.bookmarks;
}

-- what goes where a name is destroyed, and what is left of the definition; or that there is none of this name
abbrev pub FindsGoing : Name → Rows → Pool → Result Removal PlanFault → Type 0
FindsGoing name rows pool (Ok going) =
    (gone : List plain.Snapshot) × AreGoing going rows gone
    × (with_destroyed [] name pool ≡ unless_used (λ partial. is_on going partial.target) gone pool (committed (pool_without going pool)))
FindsGoing name rows pool (Err fault) = with_destroyed [] name pool ≡ Err (refusal_of fault)

-- what goes where a name is destroyed is what the definition leaves out; or its refusal
abbrev pub JudgesDestroyed : Name → Pool → Result Removal PlanFault → Type 0
JudgesDestroyed name pool (Ok going) = with_destroyed [] name pool ≡ Ok (next_of (pool_without going pool))
JudgesDestroyed name pool (Err fault) = with_destroyed [] name pool ≡ Err (refusal_of fault)

-- the row of a snapshot, and the snapshot at its place; or that there is none
abbrev pub FindsSnapshot : Rows → List ℕ → Pool → Result (Bor Snapshot) PlanFault → Type 0
FindsSnapshot rows name pool (Ok row) =
    (snapshot : plain.Snapshot) × StandAlike rows.snapshots pool.snapshots row.now snapshot × (snapshot_named name pool ≡ Some snapshot) × (snapshot.name ≡ name)
FindsSnapshot rows name pool (Err fault) = (snapshot_named name pool ≡ None) × (refusal_of fault ≡ no_such (names.Snapshot name))

-- the same of a dataset, whether it has a partial state or not
abbrev pub FindsSource : Rows → List ℕ → Pool → Result (Bor Dataset) PlanFault → Type 0
FindsSource rows name pool (Ok row) =
    (dataset : plain.Dataset) × StandAlike rows.datasets pool.datasets row.now dataset × (dataset_named name pool ≡ Some dataset)
FindsSource rows name pool (Err fault) = (dataset_named name pool ≡ None) × (refusal_of fault ≡ no_such (names.Dataset name))

-- the row of a clone
abbrev pub clone_row : List ℕ → Dataset → Snapshot → Dataset
clone_row name source snapshot = record { name = name; kind = source.kind; origin = Some snapshot.name; head = snapshot.objects; redact = snapshot.redact }

-- a row of a dataset that can be put among these under this name
pub record IsNewDataset (rows : Rows) (name : List ℕ) (made : Dataset) : Type 0 where
  pub row : IsDatasetRow made
  pub named : made.name ≡ name
  pub absent : HasDataset rows name → ⊥
  pub origin : IfSome made.origin (HasSnapshot rows)

-- the row of a clone, of the snapshot and of the kind that the definition takes; or its refusal
abbrev pub JudgesClone : Rows → List ℕ → List ℕ → Pool → Result Dataset PlanFault → Type 0
JudgesClone rows origin name pool (Ok row) =
    (source : Dataset) × (snapshot : Snapshot) × (dataset : plain.Dataset) × (taken : plain.Snapshot)
    × StandAlike rows.datasets pool.datasets source dataset × StandAlike rows.snapshots pool.snapshots snapshot taken
    × (row ≡ clone_row name source snapshot) × (with_clone origin name pool ≡ Ok (next_of (with_new (clone_of name dataset taken) pool)))
JudgesClone rows origin name pool (Err fault) = with_clone origin name pool ≡ Err (refusal_of fault)

-- the row of a bookmark of a snapshot: it has no list
abbrev pub bookmark_row : List ℕ → Snapshot → Bookmark
bookmark_row name snapshot = record { name = name; guid = snapshot.guid; time = snapshot.time; number = snapshot.number; redact = []; runs = 0; levels = 0; root = hole_of 0 }

-- a pool with a new bookmark
abbrev pub with_marked : plain.Bookmark → Pool → Pool
with_marked bookmark pool = record pool { bookmarks = inserted (λ a b. is_before a.name b.name) bookmark pool.bookmarks }

-- what comes next, where a bookmark's name is free
abbrev pub if_free_bookmark : List ℕ → Pool → Result Stepped Refusal → Result Stepped Refusal
if_free_bookmark name pool rest = unless (is_some (bookmark_named name pool)) (exists_already (names.Bookmark name)) rest

-- where one more bookmark has room
abbrev pub if_few_bookmarks : Pool → Result Stepped Refusal → Result Stepped Refusal
if_few_bookmarks pool rest = limited quantities.Bookmarks most_bookmarks (length pool.bookmarks + 1) rest

-- and where both are so
abbrev pub if_new_bookmark : List ℕ → Pool → Result Stepped Refusal → Result Stepped Refusal
if_new_bookmark name pool rest = if_free_bookmark name pool (if_few_bookmarks pool rest)

-- and where it is of the snapshot's dataset
abbrev pub if_of_dataset : List ℕ → List ℕ → Result Stepped Refusal → Result Stepped Refusal
if_of_dataset snapshot name rest = unless (not (bytes_eq (dataset_of 64 snapshot) (dataset_of 35 name))) (not_ancestor (names.Bookmark name) (names.Snapshot snapshot)) rest

-- a row of a bookmark that can be put among these under this name
pub record IsNewBookmark (rows : Rows) (name : List ℕ) (made : Bookmark) : Type 0 where
  pub row : IsBookmarkRow made
  pub named : made.name ≡ name
  pub absent : All (λ other. other.name ≢ name) rows.bookmarks

-- the row of a bookmark of the snapshot that the definition takes; or its refusal
abbrev pub JudgesBookmark : Rows → List ℕ → List ℕ → Pool → Result Bookmark PlanFault → Type 0
JudgesBookmark rows snapshot name pool (Ok row) =
    (marked : Snapshot) × (taken : plain.Snapshot) × StandAlike rows.snapshots pool.snapshots marked taken
    × (row ≡ bookmark_row name marked) × (with_bookmark snapshot name pool ≡ Ok (next_of (with_marked (bookmark_of name taken) pool)))
JudgesBookmark rows snapshot name pool (Err fault) = with_bookmark snapshot name pool ≡ Err (refusal_of fault)

-- what is newer than a snapshot, by its row and by itself
abbrev pub newer_than : Snapshot → Removal
newer_than snapshot = goes.Newer (dataset_of 64 snapshot.name) snapshot.number

abbrev pub newer_in_pool : plain.Snapshot → Removal
newer_in_pool snapshot = goes.Newer (dataset_of_snapshot snapshot) snapshot.number

-- rows can be rolled back to this row of a snapshot: nothing that is newer is used
pub record CanRollBack (rows : Rows) (snapshot : Snapshot) : Type 0 where
  pub row : IsSnapshotRow snapshot
  pub unused : AreUnused (newer_than snapshot) rows

-- what comes next, where a rollback to this snapshot loses nothing that is held
abbrev pub if_rolls_back : Bool → plain.Snapshot → Pool → Result Stepped Refusal → Result Stepped Refusal
if_rolls_back destroys snapshot pool rest =
    unless_used (λ partial. bytes_eq partial.target (dataset_of_snapshot snapshot)) (destroyed_by destroys snapshot pool) pool (unless_newer destroys snapshot pool rest)

-- the row of the snapshot that the definition rolls back to; or its refusal
abbrev pub JudgesRollback : Rows → Bool → List ℕ → Pool → Result (Bor Snapshot) PlanFault → Type 0
JudgesRollback rows destroys name pool (Ok row) =
    (taken : plain.Snapshot) × StandAlike rows.snapshots pool.snapshots row.now taken × (with_rollback [] destroys name pool ≡ Ok (next_of (rolled_back taken pool)))
JudgesRollback rows destroys name pool (Err fault) = with_rollback [] destroys name pool ≡ Err (refusal_of fault)

-- the rows without what is newer than a snapshot, and with the head of its dataset as that
abbrev pub rows_rolled_back : Snapshot → Rows → Rows
rows_rolled_back snapshot rows =
    let left = without (newer_than snapshot) rows in
    record left { datasets = with_objects (dataset_of 64 snapshot.name) snapshot.objects snapshot.redact left.datasets }

-- what comes next, where a dataset has a partial state
abbrev pub if_partial : List ℕ → Pool → Result Stepped Refusal → Result Stepped Refusal
if_partial target pool rest = or_else (no_partial target) (partial_of target pool) (λ partial. rest)

-- the rows without the partial state of a target
abbrev pub rows_without_partial : List ℕ → Rows → Rows
rows_without_partial target rows = record rows { partials = filter (λ partial. not (bytes_eq partial.target target)) rows.partials }
