-- What a look at the rows says of a rollback of the pool that they name.
use Rattle.std.specs.Prelude.{Err, Result, option_map, find}
use Rattle.std.proofs.Common.{◌≡◌, Bool, true, false, cond, ◌&&◌, ◌||◌, ℕ, nat_lt, List, [], ◌∷◌, map, get_or, Option, Some, None, is_some, refl, sym, ap, ◌∙◌, subst}
use Rattle.std.specs.List.{filter, list_any}
use Rattle.std.specs.Str.{bytes_eq}
use Rattle.zst_names.specs.Names.{dataset_of}
use Rattle.zst_model.proofs.OrderLaws.{same_bytes}
use Rattle.zst_model.specs.declared.refusals.subjects.Name.TheVariants as names
use Rattle.zst_model.specs.declared.refusals.refusal.Refusal.{Refusal}
use Rattle.zst_model.specs.pools.Pool.{Pool, dataset_of_bookmark, dataset_of_snapshot, snapshot_named}
use Rattle.zst_model.specs.pools.Pool as plain
use Rattle.zst_model.specs.pools.Step.{Stepped, busy_bookmark, busy_clone, busy_partial, busy_snapshot, committed, is_newer, is_newer_bookmark, is_one_of, least_name, newer_snapshots, no_such, or_else, rolled_back, rolled_to, unless_newer, unless_there, unless_used, with_rollback}
use Rattle.zst_model.proofs.Options.{none_there, there_is}
use Rattle.zst_model.proofs.FoundElements.{found_passes}
use Rattle.zst_tree.specs.Indices.{Blocks}
use Rattle.zst_dir.specs.Removal.{AreUnused, names_going, takes_bookmark, takes_snapshot, without}
use Rattle.zst_dir.specs.Rows.{Rows, with_objects_at}
use Rattle.zst_dir.specs.declared.removal.Removal.{Removal}
use Rattle.zst_dir.specs.declared.rows.Bookmark.{Bookmark}
use Rattle.zst_dir.specs.declared.rows.Snapshot.{Snapshot}
use Rattle.zst_dir.specs.RowNames.{AreNamed, Match, NamesBookmark, NamesPartial, NamesSnapshot, StandAlike}
use Rattle.zst_image.specs.Reads.{DatasetIs, RunsBy, SnapshotIs}
use Rattle.zst_pool.specs.Lineage.{AreGoing, if_rolls_back, is_on, newer_in_pool, newer_than, pool_without, rows_rolled_back}
use Rattle.zst_pool.proofs.DestroyedRows.{finds_none, found_named, one_of_none, passing_go, told}
use Rattle.zst_pool.proofs.LeastNames.{least-none, least_where}
use Rattle.zst_pool.proofs.LineageRows.{left_runs}
use Rattle.zst_dir.proofs.Matches.{Match-alike, filter-Match, list_any-Match, list_any-filter, map-Match}
use Rattle.zst_pool.proofs.PartialRows.{objects_at_is}

-- lists that match have the same names
names-Match : {A B : Type 0} (Is : A → B → Type 0) (f : A → List ℕ) (g : B → List ℕ) → ((x : A) (y : B) → Is x y → f x ≡ g y)
    → (xs : List A) (ys : List B) → Match Is xs ys → map f xs ≡ map g ys
names-Match Is f g same [] [] m = refl
names-Match Is f g same [] (y ∷ ys) m = absurd m
names-Match Is f g same (x ∷ xs) [] m = absurd m
names-Match Is f g same (x ∷ xs) (y ∷ ys) m = ap (λ n. n ∷ map f xs) (same x y m.0) ∙ ap (λ l. g y ∷ l) (names-Match Is f g same xs ys m.1)

or_false : (b : Bool) → (b || false) ≡ b
or_false true = refl
or_false false = refl

-- what goes where all that is newer does, by the rows
abbrev pub bookmark_by_rows : Removal → Rows → Option (List ℕ)
bookmark_by_rows going rows = option_map (λ bookmark. bookmark.name) (find (takes_bookmark going) rows.bookmarks)

abbrev pub snapshot_by_rows : Removal → Rows → Option (List ℕ)
snapshot_by_rows going rows = least_where (λ snapshot. snapshot.name) (takes_snapshot going) rows.snapshots

-- where no snapshot goes, none that goes is used
pub nothing_goes : (going : Removal) (rows : Rows) → snapshot_by_rows going rows ≡ None → AreUnused going rows
nothing_goes going rows none = record {
  origins = λ k d below. apart (get_or rows.datasets k d).origin;
  bases = λ k d below. apart (get_or rows.partials k d).base;
}
  where
    apart : (name : Option (List ℕ)) → names_going going rows name ≡ false
    apart None = refl
    apart (Some name) =
        sym (list_any-filter (takes_snapshot going) (λ snapshot. bytes_eq snapshot.name name) rows.snapshots)
        ∙ ap (list_any (λ (snapshot : Snapshot). bytes_eq snapshot.name name)) (least-none (λ (snapshot : Snapshot). snapshot.name) (filter (takes_snapshot going) rows.snapshots) none)

module _ (taken : plain.Snapshot) where
  -- a row is newer where its snapshot is, or its bookmark
  newer_same : (x : Snapshot) (y : plain.Snapshot) → NamesSnapshot x y → takes_snapshot (newer_in_pool taken) x ≡ is_newer taken y
  newer_same x y is =
      ap (λ n. bytes_eq (dataset_of 64 n) (dataset_of_snapshot taken) && nat_lt taken.number x.number) (sym is.name)
      ∙ ap (λ k. bytes_eq (dataset_of_snapshot y) (dataset_of_snapshot taken) && nat_lt taken.number k) (sym is.number)

  newer_bookmark_same : (x : Bookmark) (y : plain.Bookmark) → NamesBookmark x y → takes_bookmark (newer_in_pool taken) x ≡ is_newer_bookmark taken y
  newer_bookmark_same x y is =
      ap (λ n. bytes_eq (dataset_of 35 n) (dataset_of_snapshot taken) && nat_lt taken.number x.number) (sym is.name)
      ∙ ap (λ k. bytes_eq (dataset_of_bookmark y) (dataset_of_snapshot taken) && nat_lt taken.number k) (sym is.number)

  module _ (rows : Rows) (pool : Pool) (are : AreNamed rows pool) where
    -- the newer snapshots go
    pub newer_go : AreGoing (newer_in_pool taken) rows (newer_snapshots taken pool)
    newer_go = passing_go rows pool are (newer_in_pool taken) (is_newer taken) newer_same

    -- the definition's look at what is newer, by the rows
    pub newer_by_rows : (going : Removal) (rest : Result Stepped Refusal) → going ≡ newer_in_pool taken
        → unless_newer false taken pool rest ≡ unless_there busy_bookmark (bookmark_by_rows going rows) (unless_there busy_snapshot (snapshot_by_rows going rows) rest)
    newer_by_rows going rest is =
        subst (λ (g : Removal). unless_newer false taken pool rest ≡ unless_there busy_bookmark (bookmark_by_rows g rows) (unless_there busy_snapshot (snapshot_by_rows g rows) rest)) (sym is)
        (told busy_bookmark (λ bookmark. bookmark.name) (find (is_newer_bookmark taken) pool.bookmarks) _
        ∙ ap (λ o. unless_there busy_bookmark o (unless_there busy_snapshot (least_name (map (λ (other : plain.Snapshot). other.name) (newer_snapshots taken pool))) rest))
        (sym (found_named NamesBookmark (takes_bookmark (newer_in_pool taken)) (is_newer_bookmark taken) (λ bookmark. bookmark.name) (λ bookmark. bookmark.name)
        newer_bookmark_same (λ x y is. sym is.name) rows.bookmarks pool.bookmarks are.bookmarks))
        ∙ ap (λ (l : List (List ℕ)). unless_there busy_bookmark (bookmark_by_rows (newer_in_pool taken) rows) (unless_there busy_snapshot (least_name l) rest))
        (sym (names-Match NamesSnapshot (λ snapshot. snapshot.name) (λ snapshot. snapshot.name) (λ x y is. sym is.name)
        (filter (takes_snapshot (newer_in_pool taken)) rows.snapshots) (newer_snapshots taken pool)
        (filter-Match NamesSnapshot (takes_snapshot (newer_in_pool taken)) (is_newer taken) newer_same rows.snapshots pool.snapshots are.snapshots))))

module _ (rows : Rows) (pool : Pool) (are : AreNamed rows pool) (name : List ℕ) where
  -- a partial state of a dataset is the first of those that a rollback without -r looks for
  abbrev is_held : plain.Partial → Bool
  is_held partial = bytes_eq partial.target name || is_one_of [] partial.base

  held_is_there : list_any (λ partial. bytes_eq partial.target name) rows.partials ≡ is_some (find is_held pool.partials)
  held_is_there =
      list_any-Match NamesPartial (λ partial. bytes_eq partial.target name) is_held
      (λ x y is. ap (λ n. bytes_eq n name) (sym is.target) ∙ sym (or_false (bytes_eq y.target name)) ∙ ap (λ b. bytes_eq y.target name || b) (sym (one_of_none y.base)))
      rows.partials pool.partials are.partials

  module _ (rest : Result Stepped Refusal) where
    pub partial_is_held : list_any (λ partial. bytes_eq partial.target name) rows.partials ≡ true
        → unless_used (λ partial. bytes_eq partial.target name) [] pool rest ≡ Err (busy_partial name)
    partial_is_held there =
        let found = there_is (find is_held pool.partials) (sym held_is_there ∙ there) in
        let passes : is_held found.0 ≡ true = (found_passes is_held pool.partials found.0 found.1).1 in
        let named : bytes_eq found.0.target name ≡ true = sym (or_false (bytes_eq found.0.target name)) ∙ ap (λ b. bytes_eq found.0.target name || b) (sym (one_of_none found.0.base)) ∙ passes in
        ap (λ o. unless_there (λ (partial : plain.Partial). busy_partial partial.target) o (unless_there (λ (dataset : plain.Dataset). busy_clone dataset.name) (find (λ dataset. is_one_of [] dataset.origin) pool.datasets) rest)) found.1
        ∙ ap (λ (n : List ℕ). Err (busy_partial n)) (same_bytes found.0.target name named)

    pub partial_is_free : list_any (λ partial. bytes_eq partial.target name) rows.partials ≡ false
        → unless_used (λ partial. bytes_eq partial.target name) [] pool rest ≡ rest
    partial_is_free absent =
        ap (λ o. unless_there (λ (partial : plain.Partial). busy_partial partial.target) o (unless_there (λ (dataset : plain.Dataset). busy_clone dataset.name) (find (λ dataset. is_one_of [] dataset.origin) pool.datasets) rest))
        (none_there (find is_held pool.partials) (sym held_is_there ∙ absent))
        ∙ ap (λ o. unless_there (λ (dataset : plain.Dataset). busy_clone dataset.name) o rest)
        (finds_none (λ (dataset : plain.Dataset). is_one_of [] dataset.origin) pool.datasets (λ d. one_of_none d.origin))

-- the row of a snapshot and the snapshot have the same newer ones
pub newer_is : (row : Snapshot) (taken : plain.Snapshot) → NamesSnapshot row taken → newer_than row ≡ newer_in_pool taken
newer_is row taken is = let name = is.name in let number = is.number in rw (name, number) refl

pub same_dataset : (row : Snapshot) (taken : plain.Snapshot) → newer_than row ≡ newer_in_pool taken → dataset_of 64 row.name ≡ dataset_of_snapshot taken
same_dataset row taken is = cc

-- what a rollback looks for that destroys, and one that doesn't
pub destroying_looks : (destroys : Bool) (taken : plain.Snapshot) (pool : Pool) (rest : Result Stepped Refusal) (going : Removal) → destroys ≡ true → going ≡ newer_in_pool taken
    → if_rolls_back destroys taken pool rest ≡ unless_used (λ partial. is_on going partial.target) (newer_snapshots taken pool) pool rest
destroying_looks destroys taken pool rest going does is =
    ap (λ d. if_rolls_back d taken pool rest) does ∙ ap (λ (g : Removal). unless_used (λ partial. is_on g partial.target) (newer_snapshots taken pool) pool rest) (sym is)

pub keeping_looks : (destroys : Bool) (taken : plain.Snapshot) (pool : Pool) (rest : Result Stepped Refusal) (name : List ℕ) → destroys ≡ false → name ≡ dataset_of_snapshot taken
    → if_rolls_back destroys taken pool rest ≡ unless_used (λ partial. bytes_eq partial.target name) [] pool (unless_newer false taken pool rest)
keeping_looks destroys taken pool rest name keeps is =
    ap (λ d. if_rolls_back d taken pool rest) keeps ∙ ap (λ (n : List ℕ). unless_used (λ partial. bytes_eq partial.target n) [] pool (unless_newer false taken pool rest)) (sym is)

-- a rollback to a snapshot that is found
pub rolls_to : (destroys : Bool) (name : List ℕ) (pool : Pool) (taken : plain.Snapshot) → snapshot_named name pool ≡ Some taken
    → with_rollback [] destroys name pool ≡ if_rolls_back destroys taken pool (committed (rolled_back taken pool))
rolls_to destroys name pool taken found =
    ap (λ o. or_else (no_such (names.Snapshot name)) o (λ snapshot. if_rolls_back destroys snapshot pool (committed (rolled_back snapshot pool)))) found

-- the rows of a directory that is rolled back stand for the pool that the definition makes
pub rolled_runs : {bound : Option ℕ} (has : Blocks) (rows : Rows) (pool : Pool) → RunsBy bound has rows pool → (row : Snapshot) (taken : plain.Snapshot) → StandAlike rows.snapshots pool.snapshots row taken
    → RunsBy bound has (rows_rolled_back row rows) (rolled_back taken pool)
rolled_runs {bound = bound} has rows pool runs row taken at =
    let of = Match-alike (SnapshotIs bound has) rows.snapshots pool.snapshots row taken runs.snapshots at in
    let left : RunsBy bound has (without (newer_than row) rows) (pool_without (newer_in_pool taken) pool) =
    subst (λ (g : Removal). RunsBy bound has (without (newer_than row) rows) (pool_without g pool)) (newer_is row taken of.named) (left_runs has rows pool runs (newer_than row)) in
    record {
      datasets =
          subst (λ (n : List ℕ). Match (DatasetIs bound has) (rows_rolled_back row rows).datasets (map (λ (d : plain.Dataset). cond (bytes_eq d.name (dataset_of 64 n)) (rolled_to taken d) d) pool.datasets)) (sym of.named.name)
          (map-Match (DatasetIs bound has) (with_objects_at (dataset_of 64 row.name) row.objects row.redact) (λ d. cond (bytes_eq d.name (dataset_of 64 row.name)) (rolled_to taken d) d)
          (λ x y is. objects_at_is has (dataset_of 64 row.name) row taken x y of is) (without (newer_than row) rows).datasets pool.datasets left.datasets);
      snapshots = left.snapshots;
      bookmarks = left.bookmarks;
      partials = left.partials;
    }
