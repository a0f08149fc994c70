-- What a look at the rows says of the snapshots and the bookmarks of the pool that they name.
use Rattle.std.specs.Prelude.{Result, Err}
use Rattle.std.proofs.Common.{◌≡◌, ℕ, ◌+◌, ◌≤◌, ◌<◌, true, false, List, length, get_or, None, Some, is_some, refl, sym, ap, ◌∙◌, arith}
use Rattle.std.specs.List.{All, position}
use Rattle.std.specs.Str.{bytes_eq}
use Rattle.zst_model.proofs.InsertedLaws.{All-from_contains}
use Rattle.zst_model.proofs.OrderLaws.{same_bytes}
use Rattle.zst_model.specs.declared.refusals.faults.Quantity.TheVariants as quantities
use Rattle.zst_model.specs.declared.refusals.subjects.Name.TheVariants as names
use Rattle.zst_model.specs.declared.refusals.refusal.Refusal.{Refusal}
use Rattle.zst_model.specs.declared.refusals.refusal.Refusal.TheVariants as refusals
use Rattle.zst_model.specs.pools.Pool.{Pool, bookmark_named, dataset_named, dataset_of_snapshot, snapshot_named}
use Rattle.zst_model.specs.pools.Pool as plain
use Rattle.zst_model.specs.pools.Step.{Stepped, clone_of, exists_already, most_bookmarks, no_such, or_else, with_clone, with_dataset}
use Rattle.zst_model.proofs.PassedLimits.{over, within_limit}
use Rattle.zst_model.proofs.FoundElements.{found_passes}
use Rattle.zst_names.specs.Names.{dataset_of}
use Rattle.zst_dir.specs.Rows.{Rows}
use Rattle.zst_dir.specs.declared.rows.Bookmark.{Bookmark}
use Rattle.zst_dir.specs.declared.rows.Snapshot.{Snapshot}
use Rattle.zst_dir.specs.RowNames.{AreNamed, NamesBookmark, NamesSnapshot, StandAlike}
use Rattle.zst_pool.specs.Lineage.{if_few_bookmarks, if_free_bookmark}
use Rattle.zst_pool.proofs.DestroyedRows.{bookmark_is_there}
use Rattle.zst_dir.proofs.Matches.{find-Match, is_some-position, length-Match, none_named}

module _ (rows : Rows) (pool : Pool) (are : AreNamed rows pool) where
  -- the row of a snapshot stands at the place of the pool's, which has its name
  pub snapshot_at : (name : List ℕ) (place : ℕ) (d : Snapshot) → position (λ snapshot. bytes_eq snapshot.name name) rows.snapshots ≡ Some place
      → (snapshot : plain.Snapshot) × StandAlike rows.snapshots pool.snapshots (get_or rows.snapshots place d) snapshot × (snapshot_named name pool ≡ Some snapshot) × (snapshot.name ≡ name)
  snapshot_at name place d is =
      let found = find-Match NamesSnapshot (λ snapshot. bytes_eq snapshot.name name) (λ snapshot. bytes_eq snapshot.name name)
      (λ x y is. ap (λ n. bytes_eq n name) (sym is.name)) d rows.snapshots pool.snapshots are.snapshots place is in
      (found.0, found.2, found.1, same_bytes found.0.name name (found_passes (λ s. bytes_eq s.name name) pool.snapshots found.0 found.1).1)

  -- what a new bookmark is refused for
  module _ (name : List ℕ) (rest : Result Stepped Refusal) where
    pub bookmark_is_taken : is_some (position (λ bookmark. bytes_eq bookmark.name name) rows.bookmarks) ≡ true → if_free_bookmark name pool rest ≡ Err (exists_already (names.Bookmark name))
    bookmark_is_taken there = let is = sym (bookmark_is_there rows pool are name) ∙ there in rw is refl

    pub bookmark_is_free : is_some (position (λ bookmark. bytes_eq bookmark.name name) rows.bookmarks) ≡ false → if_free_bookmark name pool rest ≡ rest
    bookmark_is_free absent = let is = sym (bookmark_is_there rows pool are name) ∙ absent in rw is refl

  -- and what one bookmark more is
  module _ (rest : Result Stepped Refusal) where
    pub bookmarks_are_many : 1024 ≤ length rows.bookmarks → if_few_bookmarks pool rest ≡ Err (refusals.Limit quantities.Bookmarks 1024)
    unfolding most_bookmarks
    bookmarks_are_many many = over quantities.Bookmarks 1024 (length pool.bookmarks + 1) rest (omega (arith, many, length-Match NamesBookmark rows.bookmarks pool.bookmarks are.bookmarks))

    pub bookmarks_are_few : length rows.bookmarks < 1024 → if_few_bookmarks pool rest ≡ rest
    unfolding most_bookmarks
    bookmarks_are_few few = within_limit quantities.Bookmarks 1024 (length pool.bookmarks + 1) rest (omega (arith, few, length-Match NamesBookmark rows.bookmarks pool.bookmarks are.bookmarks))

-- a name that isn't found is new
pub no_bookmark : (rows : Rows) (name : List ℕ) → is_some (position (λ bookmark. bytes_eq bookmark.name name) rows.bookmarks) ≡ false → All (λ bookmark. bookmark.name ≡ name → ⊥) rows.bookmarks
no_bookmark rows name none =
    All-from_contains (λ (bookmark : Bookmark). bookmark.name ≡ name → ⊥) rows.bookmarks
    (λ bookmark there same. none_named (λ (b : Bookmark). b.name) name rows.bookmarks
    (sym (is_some-position (λ (b : Bookmark). bytes_eq b.name name) rows.bookmarks) ∙ none) bookmark there same)

-- a clone is a new dataset, once its snapshot and the dataset of that are found
pub clone_is_new : (origin name : List ℕ) (pool : Pool) (source : plain.Dataset) (snapshot : plain.Snapshot) → snapshot_named origin pool ≡ Some snapshot → snapshot.name ≡ origin
    → dataset_named (dataset_of 64 origin) pool ≡ Some source → with_clone origin name pool ≡ with_dataset (clone_of name source snapshot) pool
clone_is_new origin name pool source snapshot found named there =
    ap (λ o. or_else (no_such (names.Snapshot origin)) o (λ snapshot. or_else (no_such (names.Dataset (dataset_of_snapshot snapshot))) (dataset_named (dataset_of_snapshot snapshot) pool)
    (λ source. with_dataset (clone_of name source snapshot) pool))) found
    ∙ ap (λ o. or_else (no_such (names.Dataset (dataset_of_snapshot snapshot))) o (λ source. with_dataset (clone_of name source snapshot) pool))
    (ap (λ n. dataset_named (dataset_of 64 n) pool) named ∙ there)

-- where either isn't found, there is none
pub clone_of_none : (origin name : List ℕ) (pool : Pool) → snapshot_named origin pool ≡ None → with_clone origin name pool ≡ Err (no_such (names.Snapshot origin))
clone_of_none origin name pool none =
    ap (λ o. or_else (no_such (names.Snapshot origin)) o (λ snapshot. or_else (no_such (names.Dataset (dataset_of_snapshot snapshot))) (dataset_named (dataset_of_snapshot snapshot) pool)
    (λ source. with_dataset (clone_of name source snapshot) pool))) none

pub clone_without_source : (origin name : List ℕ) (pool : Pool) (snapshot : plain.Snapshot) → snapshot_named origin pool ≡ Some snapshot → snapshot.name ≡ origin
    → dataset_named (dataset_of 64 origin) pool ≡ None → with_clone origin name pool ≡ Err (no_such (names.Dataset (dataset_of 64 origin)))
clone_without_source origin name pool snapshot found named none =
    ap (λ o. or_else (no_such (names.Snapshot origin)) o (λ snapshot. or_else (no_such (names.Dataset (dataset_of_snapshot snapshot))) (dataset_named (dataset_of_snapshot snapshot) pool)
    (λ source. with_dataset (clone_of name source snapshot) pool))) found
    ∙ ap (λ n. or_else (no_such (names.Dataset (dataset_of 64 n))) (dataset_named (dataset_of 64 n) pool) (λ source. with_dataset (clone_of name source snapshot) pool)) named
    ∙ ap (λ o. or_else (no_such (names.Dataset (dataset_of 64 origin))) o (λ source. with_dataset (clone_of name source snapshot) pool)) none
