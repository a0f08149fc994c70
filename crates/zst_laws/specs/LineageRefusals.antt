-- Which clones, bookmarks, rollbacks and destroys are refused, and with which refusal where several could come.
use Rattle.std.specs.Prelude.{◌≡◌, ◌≢◌, ◌⊎◌, ℕ, ◌+◌, ◌<◌, ◌≤◌, Bool, true, false, List, length, Option, Some, None, is_some, Err, Contains}
use Rattle.zst_model.specs.declared.pools.command.Command.{Command}
use Rattle.zst_model.specs.declared.pools.command.Command.TheVariants as commands
use Rattle.zst_model.specs.declared.refusals.faults.Quantity.TheVariants as quantities
use Rattle.zst_model.specs.declared.refusals.subjects.Name.TheVariants as names
use Rattle.zst_model.specs.declared.refusals.refusal.Refusal.TheVariants as refusals
use Rattle.zst_model.specs.pools.Sessions.{Held}
use Rattle.zst_model.specs.pools.Pool.{Pool, Dataset, Snapshot, Bookmark, Partial, IsPool, dataset_named, snapshot_named, bookmark_named, partial_of, is_before}
use Rattle.zst_model.specs.pools.Step.{stepped, no_such, exists_already, not_ancestor, busy_partial, busy_clone, busy_bookmark, busy_snapshot}
use Rattle.zst_laws.specs.HoldingSessions.{LeavesFree}
use Rattle.zst_laws.specs.Lineage.{dataset_before_mark, IsNewer, IsNewerMark}
use Rattle.zst_laws.specs.StepRefusals.{Refuses, dataset_before, IsUnused}

-- ---- clone

-- E3: there is no such snapshot to clone
abbrev pub CloneWantsSnapshot : Type 0
CloneWantsSnapshot =
    (pool : Pool) (origin name : List ℕ)
    → snapshot_named origin pool ≡ None → Refuses pool (commands.Clone origin name) (no_such (names.Snapshot origin))

-- a snapshot that can be cloned, and its dataset
pub record IsCloneable (pool : Pool) (origin : List ℕ) : Type 0 where
  pub snapshot : Snapshot
  pub found : snapshot_named origin pool ≡ Some snapshot
  pub source : Dataset
  pub of_source : dataset_named (dataset_before origin) pool ≡ Some source

-- E4: the clone's name is that of a dataset
abbrev pub CloneIsThere : Type 0
CloneIsThere =
    (pool : Pool) (origin name : List ℕ) (dataset : Dataset)
    → IsCloneable pool origin → dataset_named name pool ≡ Some dataset → Refuses pool (commands.Clone origin name) (exists_already (names.Dataset name))

-- E4: or that of one that a receive has begun
abbrev pub CloneIsBegun : Type 0
CloneIsBegun =
    (pool : Pool) (origin name : List ℕ) (partial : Partial)
    → IsCloneable pool origin → partial_of name pool ≡ Some partial → Refuses pool (commands.Clone origin name) (exists_already (names.Dataset name))

-- E23: a clone is a dataset, of which there are 256 at most
abbrev pub ClonesAreFull : Type 0
ClonesAreFull =
    (pool : Pool) (origin name : List ℕ)
    → IsCloneable pool origin → IsUnused pool name → 256 ≤ length pool.datasets → Refuses pool (commands.Clone origin name) (refusals.Limit quantities.Datasets 256)

-- E23 of a clone, after all else
abbrev pub CloneHasNoNumber : Type 0
CloneHasNoNumber =
    (pool : Pool) (origin name : List ℕ)
    → IsCloneable pool origin → IsUnused pool name → length pool.datasets + length pool.partials < 256 → pool.number ≡ 9223372036854775808
    → Refuses pool (commands.Clone origin name) (refusals.Limit quantities.Number 9223372036854775808)

-- ---- bookmark

-- E3: there is no such snapshot to keep
abbrev pub BookmarkWantsSnapshot : Type 0
BookmarkWantsSnapshot =
    (pool : Pool) (of name : List ℕ)
    → snapshot_named of pool ≡ None → Refuses pool (commands.Bookmark of name) (no_such (names.Snapshot of))

-- E6: a bookmark is of its snapshot's dataset, whether its name is free or not
abbrev pub BookmarkIsElsewhere : Type 0
BookmarkIsElsewhere =
    (pool : Pool) (of name : List ℕ) (snapshot : Snapshot)
    → snapshot_named of pool ≡ Some snapshot → dataset_before of ≢ dataset_before_mark name
    → Refuses pool (commands.Bookmark of name) (not_ancestor (names.Bookmark name) (names.Snapshot of))

-- a snapshot that a bookmark of this name can keep
pub record IsMarkable (pool : Pool) (of name : List ℕ) : Type 0 where
  pub snapshot : Snapshot
  pub found : snapshot_named of pool ≡ Some snapshot
  pub same : dataset_before of ≡ dataset_before_mark name

-- E4: the bookmark is there, whatever limits are reached
abbrev pub BookmarkIsThere : Type 0
BookmarkIsThere =
    (pool : Pool) (of name : List ℕ) (bookmark : Bookmark)
    → IsMarkable pool of name → bookmark_named name pool ≡ Some bookmark → Refuses pool (commands.Bookmark of name) (exists_already (names.Bookmark name))

-- E23: there are 1,024 bookmarks at most
abbrev pub BookmarksAreFull : Type 0
BookmarksAreFull =
    (pool : Pool) (of name : List ℕ)
    → IsMarkable pool of name → bookmark_named name pool ≡ None → 1024 ≤ length pool.bookmarks
    → Refuses pool (commands.Bookmark of name) (refusals.Limit quantities.Bookmarks 1024)

-- E23 of a bookmark, after all else
abbrev pub BookmarkHasNoNumber : Type 0
BookmarkHasNoNumber =
    (pool : Pool) (of name : List ℕ)
    → IsMarkable pool of name → bookmark_named name pool ≡ None → length pool.bookmarks < 1024 → pool.number ≡ 9223372036854775808
    → Refuses pool (commands.Bookmark of name) (refusals.Limit quantities.Number 9223372036854775808)

-- ---- rollback and destroy

-- E3: what is to be destroyed, or the snapshot to roll back to, is absent
abbrev pub NothingToDestroy : Type 0
NothingToDestroy =
    (pool : Pool) (name : List ℕ)
    → (dataset_named name pool ≡ None → Refuses pool (commands.Destroy (names.Dataset name)) (no_such (names.Dataset name)))
    × (snapshot_named name pool ≡ None → Refuses pool (commands.Destroy (names.Snapshot name)) (no_such (names.Snapshot name)))
    × (bookmark_named name pool ≡ None → Refuses pool (commands.Destroy (names.Bookmark name)) (no_such (names.Bookmark name)))
    × (snapshot_named name pool ≡ None → (destroys : Bool) → Refuses pool (commands.Rollback destroys name) (no_such (names.Snapshot name)))

-- a rollback, or a destroy of a dataset or a snapshot, whose name is there
abbrev pub IsFound : Pool → Command → Type 0
IsFound pool (commands.Rollback destroys name) = is_some (snapshot_named name pool) ≡ true
IsFound pool (commands.Destroy (names.Dataset name)) = is_some (dataset_named name pool) ≡ true
IsFound pool (commands.Destroy (names.Snapshot name)) = is_some (snapshot_named name pool) ≡ true
IsFound pool _ = ⊥

-- it destroys a snapshot: with -r those newer than its own, of a dataset all, or the one that it names
abbrev pub Destroys : Pool → Command → Snapshot → Type 0
Destroys pool (commands.Rollback true name) snapshot = (own : Snapshot) × (snapshot_named name pool ≡ Some own) × IsNewer own snapshot
Destroys pool (commands.Destroy (names.Dataset name)) snapshot = dataset_before snapshot.name ≡ name
Destroys pool (commands.Destroy (names.Snapshot name)) snapshot = snapshot.name ≡ name
Destroys pool _ snapshot = ⊥

-- it changes or destroys this dataset
abbrev pub Touches : Command → List ℕ → Type 0
Touches (commands.Rollback destroys name) dataset = dataset ≡ dataset_before name
Touches (commands.Destroy (names.Dataset name)) dataset = dataset ≡ name
Touches _ dataset = ⊥

-- a name that may be none is that of a snapshot that it destroys
abbrev pub IsDestroyed : Pool → Command → Option (List ℕ) → Type 0
IsDestroyed pool command name = (snapshot : Snapshot) × Contains pool.snapshots snapshot × Destroys pool command snapshot × (name ≡ Some snapshot.name)

-- a partial state stands in its way: one of the dataset, or one whose base it destroys
abbrev pub HoldsAsPartial : Pool → Command → Partial → Type 0
HoldsAsPartial pool command partial = Touches command partial.target ⊎ IsDestroyed pool command partial.base

-- so does a clone of what it destroys
abbrev pub HoldsAsClone : Pool → Command → Dataset → Type 0
HoldsAsClone pool command dataset = IsDestroyed pool command dataset.origin

-- of what stands in the way this has the least name
pub record IsLeastHolder {A : Type 0} (name : A → List ℕ) (holds : A → Type 0) (xs : List A) (one : A) : Type 0 where
  pub there : Contains xs one
  pub holds_it : holds one
  pub least : (other : A) → Contains xs other → holds other → is_before (name other) (name one) ≡ false

-- nothing in the list stands in the way
abbrev pub NoneHolds : {A : Type 0} → (A → Type 0) → List A → Type 0
NoneHolds {A = A} holds xs = (one : A) → Contains xs one → holds one → ⊥

-- a command on what is there that no session holds back
pub record IsUnheld (pool : Pool) (command : Command) (held : List Held) : Type 0 where
  pub lawful : IsPool pool
  pub found : IsFound pool command
  pub free : (one : Held) → Contains held one → LeavesFree pool command one

-- E5: behind sessions, a partial state is named, and of several the one with the least name
abbrev pub PartialIsNamed : Type 0
PartialIsNamed =
    (pool : Pool) (command : Command) (held : List Held) (now : ℕ) (partial : Partial)
    → IsUnheld pool command held → IsLeastHolder (λ p. p.target) (HoldsAsPartial pool command) pool.partials partial
    → stepped held now command pool ≡ Err (busy_partial partial.target)

-- E5: behind partial states, a clone
abbrev pub CloneIsNamed : Type 0
CloneIsNamed =
    (pool : Pool) (command : Command) (held : List Held) (now : ℕ) (dataset : Dataset)
    → IsUnheld pool command held → NoneHolds (HoldsAsPartial pool command) pool.partials
    → IsLeastHolder (λ d. d.name) (HoldsAsClone pool command) pool.datasets dataset
    → stepped held now command pool ≡ Err (busy_clone dataset.name)

-- a rollback without -r to a snapshot whose dataset has no partial state
pub record IsRollback (pool : Pool) (name : List ℕ) (snapshot : Snapshot) : Type 0 where
  pub lawful : IsPool pool
  pub found : snapshot_named name pool ≡ Some snapshot
  pub free : partial_of (dataset_before name) pool ≡ None

-- E5 of a rollback without -r: a newer bookmark is named
abbrev pub NewerMarkIsNamed : Type 0
NewerMarkIsNamed =
    (pool : Pool) (name : List ℕ) (snapshot : Snapshot) (bookmark : Bookmark)
    → IsRollback pool name snapshot → IsLeastHolder (λ b. b.name) (IsNewerMark snapshot) pool.bookmarks bookmark
    → Refuses pool (commands.Rollback false name) (busy_bookmark bookmark.name)

-- E5: behind bookmarks, a newer snapshot
abbrev pub NewerSnapshotIsNamed : Type 0
NewerSnapshotIsNamed =
    (pool : Pool) (name : List ℕ) (snapshot newer : Snapshot)
    → IsRollback pool name snapshot → NoneHolds (IsNewerMark snapshot) pool.bookmarks
    → IsLeastHolder (λ s. s.name) (IsNewer snapshot) pool.snapshots newer
    → Refuses pool (commands.Rollback false name) (busy_snapshot newer.name)

-- without -r, nothing is newer
abbrev pub IsNewestOf : Pool → Command → Type 0
IsNewestOf pool (commands.Rollback false name) =
    (snapshot : Snapshot) → snapshot_named name pool ≡ Some snapshot
    → NoneHolds (IsNewer snapshot) pool.snapshots × NoneHolds (IsNewerMark snapshot) pool.bookmarks
IsNewestOf pool _ = Unit {0}

-- E23 of a rollback or a destroy, after all else
abbrev pub DestroyHasNoNumber : Type 0
DestroyHasNoNumber =
    (pool : Pool) (command : Command) (held : List Held) (now : ℕ)
    → IsUnheld pool command held → NoneHolds (HoldsAsPartial pool command) pool.partials → NoneHolds (HoldsAsClone pool command) pool.datasets
    → IsNewestOf pool command → pool.number ≡ 9223372036854775808
    → stepped held now command pool ≡ Err (refusals.Limit quantities.Number 9223372036854775808)

-- so is it with a bookmark, which nothing holds
abbrev pub BookmarkStays : Type 0
BookmarkStays =
    (pool : Pool) (name : List ℕ) (bookmark : Bookmark)
    → bookmark_named name pool ≡ Some bookmark → pool.number ≡ 9223372036854775808
    → Refuses pool (commands.Destroy (names.Bookmark name)) (refusals.Limit quantities.Number 9223372036854775808)
