-- The rows of a directory with a clone or a bookmark, or without what goes, stand for the pool that the definition makes.
use Rattle.std.proofs.Common.{◌≡◌, Bool, true, false, cond, not, ◌&&◌, ℕ, nat_lt, List, [], ◌∷◌, filter, bytes_eq, Some, refl, sym, ap, ◌∙◌, subst, arith, Option}
use Rattle.zst_names.specs.Names.{dataset_of}
use Rattle.zst_model.specs.pools.Pool.{Pool, inserted, is_before}
use Rattle.zst_model.specs.pools.Pool as plain
use Rattle.zst_model.specs.pools.Step.{bookmark_of, clone_of}
use Rattle.zst_tree.specs.Indices.{Blocks}
use Rattle.zst_dir.specs.Removal.{without}
use Rattle.zst_dir.specs.Rows.{Rows}
use Rattle.zst_dir.specs.declared.removal.Removal.{Removal}
use Rattle.zst_dir.specs.declared.removal.Removal.TheVariants as goes
use Rattle.zst_dir.specs.declared.rows.Dataset.{Dataset}
use Rattle.zst_dir.specs.declared.rows.Snapshot.{Snapshot}
use Rattle.zst_dir.specs.RowNames.{Match, StandAlike}
use Rattle.zst_image.specs.Reads.{BookmarkIs, DatasetIs, RunsBy, SnapshotIs}
use Rattle.zst_pool.specs.Lineage.{bookmark_row, clone_row, pool_without, with_marked}
use Rattle.zst_dir.proofs.Matches.{Match-alike, filter-Match, inserted-Match}

-- where all stay the list stays
all_stay : {A : Type 0} (stays : A → Bool) (xs : List A) → ((x : A) → stays x ≡ true) → filter stays xs ≡ xs
all_stay stays [] each = refl
all_stay stays (x ∷ xs) each = ap (λ b. cond b (x ∷ filter stays xs) (filter stays xs)) (each x) ∙ ap (λ rest. x ∷ rest) (all_stay stays xs each)

-- whether a name is of a dataset, and a number after another
abbrev newer : ℕ → List ℕ → ℕ → List ℕ → ℕ → Bool
newer mark dataset number name other = bytes_eq (dataset_of mark name) dataset && nat_lt number other

module _ {bound : Option ℕ} (has : Blocks) (rows : Rows) (pool : Pool) (runs : RunsBy bound has rows pool) where
  -- where no row of a list goes, it matches as it did
  all_match : {A B : Type 0} (Is : A → B → Type 0) (stays : A → Bool) (xs : List A) (ys : List B) → ((x : A) → stays x ≡ true) → Match Is xs ys → Match Is (filter stays xs) ys
  all_match Is stays xs ys each m = subst (λ l. Match Is l ys) (sym (all_stay stays xs each)) m

  -- the rows without what goes stand for the pool without it
  pub left_runs : (going : Removal) → RunsBy bound has (without going rows) (pool_without going pool)
  left_runs (goes.Dataset name) = record {
    datasets = filter-Match (DatasetIs bound has) (λ d. not (bytes_eq d.name name)) (λ d. not (bytes_eq d.name name))
        (λ x y is. ap (λ n. not (bytes_eq n name)) (sym is.named.name)) rows.datasets pool.datasets runs.datasets;
    snapshots = filter-Match (SnapshotIs bound has) (λ s. not (bytes_eq (dataset_of 64 s.name) name)) (λ s. not (bytes_eq (dataset_of 64 s.name) name))
        (λ x y is. ap (λ n. not (bytes_eq (dataset_of 64 n) name)) (sym is.named.name)) rows.snapshots pool.snapshots runs.snapshots;
    bookmarks = filter-Match (BookmarkIs has) (λ b. not (bytes_eq (dataset_of 35 b.name) name)) (λ b. not (bytes_eq (dataset_of 35 b.name) name))
        (λ x y is. ap (λ n. not (bytes_eq (dataset_of 35 n) name)) (sym is.named.name)) rows.bookmarks pool.bookmarks runs.bookmarks;
    partials = runs.partials;
  }
  left_runs (goes.Snapshot name) = record {
    datasets = all_match (DatasetIs bound has) (λ d. not false) rows.datasets pool.datasets (λ d. refl) runs.datasets;
    snapshots = filter-Match (SnapshotIs bound has) (λ s. not (bytes_eq s.name name)) (λ s. not (bytes_eq s.name name))
        (λ x y is. ap (λ n. not (bytes_eq n name)) (sym is.named.name)) rows.snapshots pool.snapshots runs.snapshots;
    bookmarks = all_match (BookmarkIs has) (λ b. not false) rows.bookmarks pool.bookmarks (λ b. refl) runs.bookmarks;
    partials = runs.partials;
  }
  left_runs (goes.Bookmark name) = record {
    datasets = all_match (DatasetIs bound has) (λ d. not false) rows.datasets pool.datasets (λ d. refl) runs.datasets;
    snapshots = all_match (SnapshotIs bound has) (λ s. not false) rows.snapshots pool.snapshots (λ s. refl) runs.snapshots;
    bookmarks = filter-Match (BookmarkIs has) (λ b. not (bytes_eq b.name name)) (λ b. not (bytes_eq b.name name))
        (λ x y is. ap (λ n. not (bytes_eq n name)) (sym is.named.name)) rows.bookmarks pool.bookmarks runs.bookmarks;
    partials = runs.partials;
  }
  left_runs (goes.Newer name number) = record {
    datasets = all_match (DatasetIs bound has) (λ d. not false) rows.datasets pool.datasets (λ d. refl) runs.datasets;
    snapshots = filter-Match (SnapshotIs bound has) (λ s. not (newer 64 name number s.name s.number)) (λ s. not (newer 64 name number s.name s.number))
        (λ x y is. ap (λ n. not (newer 64 name number n x.number)) (sym is.named.name) ∙ ap (λ k. not (newer 64 name number y.name k)) (sym is.named.number)) rows.snapshots pool.snapshots runs.snapshots;
    bookmarks = filter-Match (BookmarkIs has) (λ b. not (newer 35 name number b.name b.number)) (λ b. not (newer 35 name number b.name b.number))
        (λ x y is. ap (λ n. not (newer 35 name number n x.number)) (sym is.named.name) ∙ ap (λ k. not (newer 35 name number y.name k)) (sym is.named.number)) rows.bookmarks pool.bookmarks runs.bookmarks;
    partials = runs.partials;
  }

  -- the row of a clone stands for the clone
  pub clone_row_is : (name : List ℕ) (source : Dataset) (snapshot : Snapshot) (dataset : plain.Dataset) (taken : plain.Snapshot)
      → StandAlike rows.datasets pool.datasets source dataset → StandAlike rows.snapshots pool.snapshots snapshot taken
      → DatasetIs bound has (clone_row name source snapshot) (clone_of name dataset taken)
  clone_row_is name source snapshot dataset taken of at =
      let one = Match-alike (DatasetIs bound has) rows.datasets pool.datasets source dataset runs.datasets of in
      let other = Match-alike (SnapshotIs bound has) rows.snapshots pool.snapshots snapshot taken runs.snapshots at in
      record {
        named = record { name = refl; kind = one.named.kind; origin = ap (λ n. Some n) other.named.name; redact = other.named.redact };
        head = other.objects;
      }

  -- the rows with that of a new bookmark
  pub bookmark_runs : (name : List ℕ) (snapshot : Snapshot) (taken : plain.Snapshot) → StandAlike rows.snapshots pool.snapshots snapshot taken
      → RunsBy bound has (record rows { bookmarks = inserted (λ a b. is_before a.name b.name) (bookmark_row name snapshot) rows.bookmarks }) (with_marked (bookmark_of name taken) pool)
  bookmark_runs name snapshot taken at =
      let is = Match-alike (SnapshotIs bound has) rows.snapshots pool.snapshots snapshot taken runs.snapshots at in
      record {
        datasets = runs.datasets;
        snapshots = runs.snapshots;
        bookmarks = inserted-Match (BookmarkIs has) (λ a b. is_before a.name b.name) (λ a b. is_before a.name b.name) (bookmark_row name snapshot) (bookmark_of name taken)
            (λ x y matches. ap (is_before name) (sym matches.named.name))
            (record {
              named = record { name = refl; guid = is.named.guid; time = is.named.time; number = is.named.number; redact = refl };
              list = record { lawful = refl; count_is = refl; leaves = λ some. absurd (omega (arith, some)) };
              no_list = λ none. refl;
            })
            rows.bookmarks pool.bookmarks runs.bookmarks;
        partials = runs.partials;
      }

-- what goes leaves the pool its id, its number and its guid counter
pub same_id : (going : Removal) (pool : Pool) → (pool_without going pool).id ≡ pool.id
same_id (goes.Dataset name) pool = refl
same_id (goes.Snapshot name) pool = refl
same_id (goes.Bookmark name) pool = refl
same_id (goes.Newer name number) pool = refl

pub same_number : (going : Removal) (pool : Pool) → (pool_without going pool).number ≡ pool.number
same_number (goes.Dataset name) pool = refl
same_number (goes.Snapshot name) pool = refl
same_number (goes.Bookmark name) pool = refl
same_number (goes.Newer name number) pool = refl

pub same_guids : (going : Removal) (pool : Pool) → (pool_without going pool).guids ≡ pool.guids
same_guids (goes.Dataset name) pool = refl
same_guids (goes.Snapshot name) pool = refl
same_guids (goes.Bookmark name) pool = refl
same_guids (goes.Newer name number) pool = refl
