-- What clone, bookmark, rollback and destroy make of a pool, and what they leave.
use Rattle.std.specs.Prelude.{◌≡◌, ◌≢◌, ℕ, ◌+◌, ◌<◌, Bool, false, List, [], Some, None, Ok, Contains, ◌==◌}
use Rattle.std.specs.List.{before_first}
use Rattle.zst_model.specs.declared.pools.command.Command.TheVariants as commands
use Rattle.zst_model.specs.declared.refusals.subjects.Name.TheVariants as names
use Rattle.zst_model.specs.pools.Sessions.{Held}
use Rattle.zst_model.specs.pools.Pool.{Pool, Dataset, Snapshot, Bookmark, dataset_named, snapshot_named, bookmark_named}
use Rattle.zst_model.specs.pools.Step.{Stepped, stepped}
use Rattle.zst_laws.specs.StepRefusals.{dataset_before}

-- the dataset of a bookmark's name: what stands before its `#`
abbrev pub dataset_before_mark : List ℕ → List ℕ
dataset_before_mark name = before_first (λ b. b == 35) name

-- a snapshot of the same dataset is newer than another
pub record IsNewer (snapshot newer : Snapshot) : Type 0 where
  pub of_one : dataset_before newer.name ≡ dataset_before snapshot.name
  pub later : snapshot.number < newer.number

-- so is a bookmark
pub record IsNewerMark (snapshot : Snapshot) (bookmark : Bookmark) : Type 0 where
  pub of_one : dataset_before_mark bookmark.name ≡ dataset_before snapshot.name
  pub later : snapshot.number < bookmark.number

-- a list has exactly what the relation says
abbrev pub HasExactly : {A : Type 0} → List A → (A → Type 0) → Type 0
HasExactly {A = A} xs P = (x : A) → (Contains xs x → P x) × (P x → Contains xs x)

-- a list has exactly what another has but for some
abbrev pub HasAllBut : {A : Type 0} → List A → List A → (A → Type 0) → Type 0
HasAllBut xs old goes = HasExactly xs (λ x. Contains old x × (goes x → ⊥))

-- the datasets of other names stay
abbrev pub OtherDatasetsStay : List ℕ → Pool → Pool → Type 0
OtherDatasetsStay name pool after = (other : List ℕ) → other ≢ name → dataset_named other after ≡ dataset_named other pool

-- a clone is a dataset of its snapshot's kind, with that snapshot as its origin, and with its objects, their dates, and its redaction
-- guids; nothing else changes
abbrev pub CloneMakes : Type 0
CloneMakes =
    (held : List Held) (now : ℕ) (origin name : List ℕ) (pool : Pool) (after : Stepped) (snapshot : Snapshot) (source : Dataset)
    → stepped held now (commands.Clone origin name) pool ≡ Ok after
    → snapshot_named origin pool ≡ Some snapshot → dataset_named (dataset_before origin) pool ≡ Some source
    → (dataset_named name after.pool ≡ Some (record { name = name; kind = source.kind; origin = Some origin; head = snapshot.objects; redact = snapshot.redact }))
    × OtherDatasetsStay name pool after.pool
    × (after.pool ≡ record pool { number = pool.number + 1; datasets = after.pool.datasets })

-- a bookmark has its snapshot's guid, time and number, and is of its dataset; nothing else changes
abbrev pub BookmarkMakes : Type 0
BookmarkMakes =
    (held : List Held) (now : ℕ) (of name : List ℕ) (pool : Pool) (after : Stepped) (snapshot : Snapshot)
    → stepped held now (commands.Bookmark of name) pool ≡ Ok after → snapshot_named of pool ≡ Some snapshot
    → (bookmark_named name after.pool ≡ Some (record { name = name; guid = snapshot.guid; time = snapshot.time; number = snapshot.number; redact = []; runs = [] }))
    × (dataset_before_mark name ≡ dataset_before of)
    × ((other : List ℕ) → other ≢ name → bookmark_named other after.pool ≡ bookmark_named other pool)
    × (after.pool ≡ record pool { number = pool.number + 1; bookmarks = after.pool.bookmarks })

-- a rollback leaves the head as the snapshot, and all but what is newer of its dataset; nothing else changes
abbrev pub RollbackMakes : Type 0
RollbackMakes =
    (held : List Held) (now : ℕ) (destroys : Bool) (name : List ℕ) (pool : Pool) (after : Stepped) (snapshot : Snapshot) (dataset : Dataset)
    → stepped held now (commands.Rollback destroys name) pool ≡ Ok after
    → snapshot_named name pool ≡ Some snapshot → dataset_named (dataset_before name) pool ≡ Some dataset
    → (dataset_named (dataset_before name) after.pool ≡ Some (record dataset { head = snapshot.objects; redact = snapshot.redact }))
    × OtherDatasetsStay (dataset_before name) pool after.pool
    × HasAllBut after.pool.snapshots pool.snapshots (IsNewer snapshot)
    × HasAllBut after.pool.bookmarks pool.bookmarks (IsNewerMark snapshot)
    × (after.pool ≡ record pool { number = pool.number + 1; datasets = after.pool.datasets; snapshots = after.pool.snapshots; bookmarks = after.pool.bookmarks })

-- without -r it is accepted only where nothing is newer
abbrev pub RollbackWantsNewest : Type 0
RollbackWantsNewest =
    (held : List Held) (now : ℕ) (name : List ℕ) (pool : Pool) (after : Stepped) (snapshot : Snapshot)
    → stepped held now (commands.Rollback false name) pool ≡ Ok after → snapshot_named name pool ≡ Some snapshot
    → ((newer : Snapshot) → Contains pool.snapshots newer → IsNewer snapshot newer → ⊥)
    × ((newer : Bookmark) → Contains pool.bookmarks newer → IsNewerMark snapshot newer → ⊥)

-- a dataset that is destroyed is gone with its snapshots and bookmarks; nothing else changes
abbrev pub DatasetGoes : Type 0
DatasetGoes =
    (held : List Held) (now : ℕ) (name : List ℕ) (pool : Pool) (after : Stepped)
    → stepped held now (commands.Destroy (names.Dataset name)) pool ≡ Ok after
    → (dataset_named name after.pool ≡ None)
    × OtherDatasetsStay name pool after.pool
    × HasAllBut after.pool.snapshots pool.snapshots (λ snapshot. dataset_before snapshot.name ≡ name)
    × HasAllBut after.pool.bookmarks pool.bookmarks (λ bookmark. dataset_before_mark bookmark.name ≡ name)
    × (after.pool ≡ record pool { number = pool.number + 1; datasets = after.pool.datasets; snapshots = after.pool.snapshots; bookmarks = after.pool.bookmarks })

-- a snapshot that is destroyed is the one thing that goes
abbrev pub SnapshotGoes : Type 0
SnapshotGoes =
    (held : List Held) (now : ℕ) (name : List ℕ) (pool : Pool) (after : Stepped)
    → stepped held now (commands.Destroy (names.Snapshot name)) pool ≡ Ok after
    → HasAllBut after.pool.snapshots pool.snapshots (λ snapshot. snapshot.name ≡ name)
    × (after.pool ≡ record pool { number = pool.number + 1; snapshots = after.pool.snapshots })

-- so is a bookmark
abbrev pub BookmarkGoes : Type 0
BookmarkGoes =
    (held : List Held) (now : ℕ) (name : List ℕ) (pool : Pool) (after : Stepped)
    → stepped held now (commands.Destroy (names.Bookmark name)) pool ≡ Ok after
    → HasAllBut after.pool.bookmarks pool.bookmarks (λ bookmark. bookmark.name ≡ name)
    × (after.pool ≡ record pool { number = pool.number + 1; bookmarks = after.pool.bookmarks })
