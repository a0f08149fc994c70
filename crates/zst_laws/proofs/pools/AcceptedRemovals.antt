-- What an accepted rollback, destroy or abort found, and what it made of the pool.
use Rattle.std.proofs.Common.{◌≡◌, inl, inr, ◌⊎◌, ℕ, Bool, true, false, ◌||◌, List, [], ◌∷◌, map, filter, find, Option, Some, None, Result, Ok, Contains, bytes_eq, refl, sym, subst}
use Rattle.std.proofs.lemmas.Bool.{or_parts}
use Rattle.zst_model.specs.declared.refusals.subjects.Name.TheVariants as names
use Rattle.zst_model.specs.declared.refusals.refusal.Refusal.{Refusal}
use Rattle.zst_model.specs.pools.Sessions.{Held, session_with, session_into, unless_busy}
use Rattle.zst_model.specs.pools.Pool.{Pool, Dataset, Snapshot, Bookmark, Partial, dataset_named, snapshot_named, bookmark_named, partial_of, dataset_of_snapshot}
use Rattle.zst_model.specs.pools.Step.{Stepped, no_such, no_partial, busy_partial, busy_clone, busy_bookmark, busy_snapshot, committed, unless_there, is_one_of, session_of_one, unless_used, is_newer_bookmark, newer_snapshots, least_name, destroyed_by, unless_newer, rolled_back, with_rollback, is_of, without_dataset, without_snapshot, without_bookmark, with_destroyed, without_partial, with_aborted}
use Rattle.zst_model.proofs.FoundElements.{none_passes}
use Rattle.zst_laws.proofs.pools.Rows.{or_else_ok}

-- a chain that ends well passed no holder
pub unless_busy_ok : {A : Type 0} (session : Option ℕ) (rest : Result A Refusal) (x : A) → unless_busy session rest ≡ Ok x → (session ≡ None) × (rest ≡ Ok x)
unless_busy_ok None rest x h = (refl, h)
unless_busy_ok (Some id) rest x h = absurd (cc)

pub unless_there_ok : {A B : Type 0} (refusal : A → Refusal) (o : Option A) (rest : Result B Refusal) (x : B)
    → unless_there refusal o rest ≡ Ok x → (o ≡ None) × (rest ≡ Ok x)
unless_there_ok refusal None rest x h = (refl, h)
unless_there_ok refusal (Some found) rest x h = absurd (cc)

-- snapshots that no partial state has as its base, with no such partial state besides, and that no dataset is a clone of
pub record AreUnused (is_such : Partial → Bool) (gone : List Snapshot) (pool : Pool) : Type 0 where
  pub such : (partial : Partial) → Contains pool.partials partial → is_such partial ≡ false
  pub bases : (partial : Partial) → Contains pool.partials partial → is_one_of gone partial.base ≡ false
  pub origins : (dataset : Dataset) → Contains pool.datasets dataset → is_one_of gone dataset.origin ≡ false

pub unless_used_ok : {A : Type 0} (is_such : Partial → Bool) (gone : List Snapshot) (pool : Pool) (rest : Result A Refusal) (x : A)
    → unless_used is_such gone pool rest ≡ Ok x → AreUnused is_such gone pool × (rest ≡ Ok x)
unless_used_ok is_such gone pool rest x h =
    let is_based = λ (partial : Partial). is_such partial || is_one_of gone partial.base in
    let is_clone = λ (dataset : Dataset). is_one_of gone dataset.origin in
    let based = unless_there_ok (λ (partial : Partial). busy_partial partial.target) (find is_based pool.partials) _ x h in
    let cloned = unless_there_ok (λ (dataset : Dataset). busy_clone dataset.name) (find is_clone pool.datasets) rest x based.1 in
    let none : (partial : Partial) → Contains pool.partials partial → is_based partial ≡ false = none_passes is_based pool.partials based.0 in (
      record {
        such = λ partial there. (or_parts (is_such partial) (is_one_of gone partial.base) (none partial there)).0;
        bases = λ partial there. (or_parts (is_such partial) (is_one_of gone partial.base) (none partial there)).1;
        origins = none_passes is_clone pool.datasets cloned.0;
      },
      cloned.1,
    )

-- nothing has a least name only where there is nothing
least_of_none : (xs : List (List ℕ)) → least_name xs ≡ None → xs ≡ []
least_of_none [] h = refl
least_of_none (x ∷ xs) h = absurd (cc)

map_none : {A B : Type 0} (f : A → B) (xs : List A) → map f xs ≡ [] → xs ≡ []
map_none f [] h = refl
map_none f (x ∷ xs) h = absurd (cc)

-- a snapshot with no newer bookmark and no newer snapshot
pub record IsNewest (snapshot : Snapshot) (pool : Pool) : Type 0 where
  pub bookmarks : (bookmark : Bookmark) → Contains pool.bookmarks bookmark → is_newer_bookmark snapshot bookmark ≡ false
  pub snapshots : newer_snapshots snapshot pool ≡ []

unless_newer_ok : {A : Type 0} (snapshot : Snapshot) (pool : Pool) (rest : Result A Refusal) (x : A)
    → unless_newer false snapshot pool rest ≡ Ok x → IsNewest snapshot pool × (rest ≡ Ok x)
unless_newer_ok snapshot pool rest x h =
    let bookmarks = unless_there_ok (λ (bookmark : Bookmark). busy_bookmark bookmark.name) (find (is_newer_bookmark snapshot) pool.bookmarks) _ x h in
    let snapshots = unless_there_ok busy_snapshot (least_name (map (λ (other : Snapshot). other.name) (newer_snapshots snapshot pool))) rest x bookmarks.1 in (
      record {
        bookmarks = none_passes (is_newer_bookmark snapshot) pool.bookmarks bookmarks.0;
        snapshots = map_none (λ (other : Snapshot). other.name) (newer_snapshots snapshot pool) (least_of_none _ snapshots.0);
      },
      snapshots.1,
    )

-- whether a partial state is for the dataset of a snapshot
abbrev pub is_for : List ℕ → Partial → Bool
is_for name partial = bytes_eq partial.target name

-- a rollback: the snapshot is there, nothing holds what is newer, and without -r nothing is
pub record IsRolledBack (held : List Held) (destroys : Bool) (name : List ℕ) (pool : Pool) (after : Stepped) : Type 0 where
  pub snapshot : Snapshot
  pub there : snapshot_named name pool ≡ Some snapshot
  pub unheld : session_of_one (destroyed_by destroys snapshot pool) held ≡ None
  pub unused : AreUnused (is_for (dataset_of_snapshot snapshot)) (newer_snapshots snapshot pool) pool
  pub newest : (destroys ≡ true) ⊎ IsNewest snapshot pool
  pub made : committed (rolled_back snapshot pool) ≡ Ok after

newest_or : (destroys : Bool) (snapshot : Snapshot) (pool : Pool) (rest : Result Stepped Refusal) (after : Stepped)
    → AreUnused (is_for (dataset_of_snapshot snapshot)) (destroyed_by destroys snapshot pool) pool → unless_newer destroys snapshot pool rest ≡ Ok after
    → AreUnused (is_for (dataset_of_snapshot snapshot)) (newer_snapshots snapshot pool) pool × ((destroys ≡ true) ⊎ IsNewest snapshot pool) × (rest ≡ Ok after)
newest_or true snapshot pool rest after unused h = (unused, inl refl, h)
newest_or false snapshot pool rest after unused h =
    let newest = unless_newer_ok snapshot pool rest after h in
    (subst (λ gone. AreUnused (is_for (dataset_of_snapshot snapshot)) gone pool) (sym newest.0.snapshots) unused, inr newest.0, newest.1)

pub with_rollback_ok : (held : List Held) (destroys : Bool) (name : List ℕ) (pool : Pool) (after : Stepped)
    → with_rollback held destroys name pool ≡ Ok after → IsRolledBack held destroys name pool after
with_rollback_ok held destroys name pool after h =
    let found = or_else_ok (no_such (names.Snapshot name)) (snapshot_named name pool) _ after h in
    let snapshot = found.0 in
    let gone = destroyed_by destroys snapshot pool in
    let unheld = unless_busy_ok (session_of_one gone held) _ after found.2 in
    let unused = unless_used_ok (is_for (dataset_of_snapshot snapshot)) gone pool _ after unheld.1 in
    let newest = newest_or destroys snapshot pool (committed (rolled_back snapshot pool)) after unused.0 unused.1 in record {
      snapshot = snapshot;
      there = found.1;
      unheld = unheld.0;
      unused = newest.0;
      newest = newest.1;
      made = newest.2;
    }

-- a dataset that is destroyed: nothing holds it, its snapshots or its partial state
pub record IsWithoutDataset (held : List Held) (name : List ℕ) (pool : Pool) (after : Stepped) : Type 0 where
  pub dataset : Dataset
  pub there : dataset_named name pool ≡ Some dataset
  pub unheld : session_with (names.Dataset name) held ≡ None
  pub unused : AreUnused (is_for name) (filter (is_of name) pool.snapshots) pool
  pub made : committed (without_dataset name pool) ≡ Ok after

pub dataset_destroyed_ok : (held : List Held) (name : List ℕ) (pool : Pool) (after : Stepped)
    → with_destroyed held (names.Dataset name) pool ≡ Ok after → IsWithoutDataset held name pool after
dataset_destroyed_ok held name pool after h =
    let found = or_else_ok (no_such (names.Dataset name)) (dataset_named name pool) _ after h in
    let unheld = unless_busy_ok (session_with (names.Dataset name) held) _ after found.2 in
    let unused = unless_used_ok (is_for name) (filter (is_of name) pool.snapshots) pool _ after unheld.1 in
    record { dataset = found.0; there = found.1; unheld = unheld.0; unused = unused.0; made = unused.1 }

-- a snapshot that is destroyed: nothing holds it
pub record IsWithoutSnapshot (held : List Held) (name : List ℕ) (pool : Pool) (after : Stepped) : Type 0 where
  pub snapshot : Snapshot
  pub there : snapshot_named name pool ≡ Some snapshot
  pub unheld : session_with (names.Snapshot name) held ≡ None
  pub unused : AreUnused (λ partial. false) (snapshot ∷ []) pool
  pub made : committed (without_snapshot name pool) ≡ Ok after

pub snapshot_destroyed_ok : (held : List Held) (name : List ℕ) (pool : Pool) (after : Stepped)
    → with_destroyed held (names.Snapshot name) pool ≡ Ok after → IsWithoutSnapshot held name pool after
snapshot_destroyed_ok held name pool after h =
    let found = or_else_ok (no_such (names.Snapshot name)) (snapshot_named name pool) _ after h in
    let unheld = unless_busy_ok (session_with (names.Snapshot name) held) _ after found.2 in
    let unused = unless_used_ok (λ partial. false) (found.0 ∷ []) pool _ after unheld.1 in
    record { snapshot = found.0; there = found.1; unheld = unheld.0; unused = unused.0; made = unused.1 }

-- a bookmark that is destroyed
pub record IsWithoutBookmark (name : List ℕ) (pool : Pool) (after : Stepped) : Type 0 where
  pub bookmark : Bookmark
  pub there : bookmark_named name pool ≡ Some bookmark
  pub made : committed (without_bookmark name pool) ≡ Ok after

pub bookmark_destroyed_ok : (held : List Held) (name : List ℕ) (pool : Pool) (after : Stepped)
    → with_destroyed held (names.Bookmark name) pool ≡ Ok after → IsWithoutBookmark name pool after
bookmark_destroyed_ok held name pool after h =
    let found = or_else_ok (no_such (names.Bookmark name)) (bookmark_named name pool) _ after h in
    record { bookmark = found.0; there = found.1; made = found.2 }

-- a partial state that is given up: it is there, and no session receives into it
pub record IsAborted (held : List Held) (target : List ℕ) (pool : Pool) (after : Stepped) : Type 0 where
  pub partial : Partial
  pub there : partial_of target pool ≡ Some partial
  pub unclaimed : session_into target held ≡ None
  pub made : committed (without_partial target pool) ≡ Ok after

pub with_aborted_ok : (held : List Held) (target : List ℕ) (pool : Pool) (after : Stepped) → with_aborted held target pool ≡ Ok after → IsAborted held target pool after
with_aborted_ok held target pool after h =
    let found = or_else_ok (no_partial target) (partial_of target pool) _ after h in
    let unclaimed = unless_busy_ok (session_into target held) _ after found.2 in
    record { partial = found.0; there = found.1; unclaimed = unclaimed.0; made = unclaimed.1 }
