-- What a test of rows looks names up in, and what it decides.
use Rattle.std.specs.Prelude.{◌≡◌, ◌↔◌, ℕ, Bool, true, false, List, ◌++◌, ◌∷◌, IsTrue, IfSome, All, AllPairs, Contains}
use Rattle.std.specs.BTreeSet.{BTreeSet, contains}
use Rattle.std.specs.Cmp.Lexicographic.{slice_cmp}
use Rattle.std.specs.Ordering.{nat_cmp}
use Rattle.zst_model.specs.pools.Pool.{is_before}
use Rattle.zst_dir.specs.RowReads.{IsSnapshotIn}
use Rattle.zst_dir.specs.Rows.{Rows, snapshot_is_before, IsDatasetRow, IsBookmarkRow, IsPartialRow}
use Rattle.zst_dir.specs.declared.rows.Dataset.{Dataset}
use Rattle.zst_dir.specs.declared.rows.Snapshot.{Snapshot}
use Rattle.zst_dir.specs.declared.rows.Partial.{Partial}

-- some of these snapshots has this name
abbrev pub HasNamed : List Snapshot → List ℕ → Type 0
HasNamed snapshots name = (snapshot : Snapshot) × Contains snapshots snapshot × (snapshot.name ≡ name)

-- whether a set has a name
abbrev pub has : BTreeSet (List ℕ) → List ℕ → Bool
has names name = contains (slice_cmp nat_cmp) names name

-- a set that has the names of these snapshots, and no other
abbrev pub AreNamesOf : List Snapshot → BTreeSet (List ℕ) → Type 0
AreNamesOf snapshots names = (name : List ℕ) → IsTrue (has names name) ↔ HasNamed snapshots name

-- rows that each fit, with snapshots of their datasets alone
pub record AreRead (rows : Rows) : Type 0 where
  pub datasets : All IsDatasetRow rows.datasets
  pub snapshots : All (IsSnapshotIn rows.datasets) rows.snapshots
  pub bookmarks : All IsBookmarkRow rows.bookmarks
  pub partials : All IsPartialRow rows.partials

-- rows stand in their order
pub record Rise (rows : Rows) : Type 0 where
  pub datasets : AllPairs (λ a b. is_before a.name b.name ≡ true) rows.datasets
  pub snapshots : AllPairs (λ a b. snapshot_is_before b a ≡ false) rows.snapshots
  pub bookmarks : AllPairs (λ a b. is_before a.name b.name ≡ true) rows.bookmarks
  pub partials : AllPairs (λ a b. is_before a.target b.target ≡ true) rows.partials

-- the name of the snapshot that a partial state is to become
abbrev pub name_to_be : Partial → List ℕ
name_to_be partial = partial.target ++ 64 ∷ partial.snapshot

-- each origin and base is among the names, and no snapshot that a partial state is to become
pub record LinkTo (names : BTreeSet (List ℕ)) (datasets : List Dataset) (partials : List Partial) : Type 0 where
  pub origins : All (λ dataset. IfSome dataset.origin (λ name. has names name ≡ true)) datasets
  pub bases : All (λ partial. IfSome partial.base (λ name. has names name ≡ true)) partials
  pub components : All (λ partial. has names (name_to_be partial) ≡ false) partials
