-- What a look at the rows says of what is destroyed of the pool that they name.
use Rattle.std.specs.Prelude.{Ok, Err, Result, option_map, find}
use Rattle.std.proofs.Common.{◌≡◌, Bool, true, false, cond, ◌&&◌, ◌||◌, ℕ, List, [], ◌∷◌, Option, Some, None, is_some, refl, sym, ap, ◌∙◌}
use Rattle.std.specs.List.{All, filter, list_any, position}
use Rattle.std.specs.Str.{bytes_eq}
use Rattle.std.proofs.lemmas.Bool.{or_parts}
use Rattle.std.proofs.lemmas.List.Elements.{All-nil, All-cons, All-weaker}
use Rattle.zst_model.proofs.OrderLaws.{bytes_same, same_bytes}
use Rattle.zst_names.specs.Names.{dataset_of}
use Rattle.zst_model.specs.declared.refusals.subjects.Name.{Name}
use Rattle.zst_model.specs.declared.refusals.subjects.Name.TheVariants as names
use Rattle.zst_model.specs.declared.refusals.refusal.Refusal.{Refusal}
use Rattle.zst_model.specs.pools.Pool.{Pool, bookmark_named, dataset_named, snapshot_named}
use Rattle.zst_model.specs.pools.Pool as plain
use Rattle.zst_model.specs.pools.Step.{busy_clone, busy_partial, committed, is_of, is_one_of, no_such, or_else, unless_there, unless_used, with_destroyed}
use Rattle.zst_model.proofs.Options.{none_there, there_is}
use Rattle.zst_model.proofs.FoundElements.{found_passes}
use Rattle.zst_dir.specs.Removal.{AreUnused, names_going, takes_snapshot}
use Rattle.zst_dir.specs.Rows.{Rows}
use Rattle.zst_dir.specs.declared.removal.Removal.{Removal}
use Rattle.zst_dir.specs.declared.removal.Removal.TheVariants as goes
use Rattle.zst_dir.specs.declared.rows.Bookmark.{Bookmark}
use Rattle.zst_dir.specs.declared.rows.Dataset.{Dataset}
use Rattle.zst_dir.specs.declared.rows.Partial.{Partial}
use Rattle.zst_dir.specs.declared.rows.Snapshot.{Snapshot}
use Rattle.zst_dir.specs.RowNames.{AreNamed, Match, NamesBookmark, NamesDataset, NamesPartial, NamesSnapshot}
use Rattle.zst_pool.specs.Lineage.{AreGoing, FindsGoing, going_of, is_on, is_there, pool_without}
use Rattle.zst_dir.proofs.Matches.{FoundAlike, any_is_found, found-Match, is_some-position, list_any-Match, list_any-filter}
use Rattle.zst_dir.proofs.NamedRows.{snapshot_is_there, dataset_is_there}

-- what is refused for what is there is refused for its name
pub told : {A B : Type 0} (refusal : List ℕ → Refusal) (name_of : A → List ℕ) (o : Option A) (rest : Result B Refusal)
    → unless_there (λ x. refusal (name_of x)) o rest ≡ unless_there refusal (option_map name_of o) rest
told refusal name_of None rest = refl
told refusal name_of (Some x) rest = refl

-- tests that answer alike of what matches find what has one name
pub found_named : {A B C : Type 0} (Is : A → B → Type 0) (p : A → Bool) (q : B → Bool) (f : A → C) (g : B → C) → ((x : A) (y : B) → Is x y → p x ≡ q y) → ((x : A) (y : B) → Is x y → f x ≡ g y)
    → (xs : List A) (ys : List B) → Match Is xs ys → option_map f (find p xs) ≡ option_map g (find q ys)
found_named {A = A} {B = B} Is p q f g same one xs ys m = go (find p xs) (find q ys) (found-Match Is p q same xs ys m)
  where
    go : (a : Option A) (b : Option B) → FoundAlike Is a b → option_map f a ≡ option_map g b
    go None None alike = refl
    go None (Some y) alike = absurd alike
    go (Some x) None alike = absurd alike
    go (Some x) (Some y) alike = ap (λ z. Some z) (one x y alike)

pub any-Match : {A B : Type 0} (Is : A → B → Type 0) (p : A → Bool) (q : B → Bool) → ((x : A) (y : B) → Is x y → p x ≡ q y)
    → (xs : List A) (ys : List B) → Match Is xs ys → list_any p xs ≡ list_any q ys
any-Match Is p q same xs ys m = list_any-Match Is p q same xs ys m ∙ sym (any_is_found q ys)

-- where nothing is found each test fails, and the other way round
pub none_found : {A C : Type 0} (f : A → C) (p : A → Bool) (xs : List A) → option_map f (find p xs) ≡ None → All (λ x. p x ≡ false) xs
none_found f p [] none = All-nil (λ x. p x ≡ false)
none_found f p (x ∷ xs) none = go (p x) refl (none_found f p xs) none
  where
    go : (t : Bool) → p x ≡ t → (option_map f (find p xs) ≡ None → All (λ y. p y ≡ false) xs) → option_map f (cond t (Some x) (find p xs)) ≡ None → All (λ y. p y ≡ false) (x ∷ xs)
    go true e rest some = absurd (cc)
    go false e rest none = All-cons (λ y. p y ≡ false) x xs e (rest none)

pub finds_none : {A : Type 0} (p : A → Bool) (xs : List A) → ((x : A) → p x ≡ false) → find p xs ≡ None
finds_none p [] fails = refl
finds_none p (x ∷ xs) fails = ap (λ b. cond b (Some x) (find p xs)) (fails x) ∙ finds_none p xs fails

pub any_none : {A : Type 0} (p : A → Bool) (xs : List A) → ((x : A) → p x ≡ false) → list_any p xs ≡ false
any_none p [] fails = refl
any_none p (x ∷ xs) fails = ap (λ b. b || list_any p xs) (fails x) ∙ any_none p xs fails

-- a test twice is the test
any_twice : {A : Type 0} (p : A → Bool) (xs : List A) → list_any (λ x. p x && p x) xs ≡ list_any p xs
any_twice p [] = refl
any_twice p (x ∷ xs) = ap (λ b. b || list_any (λ y. p y && p y) xs) (twice (p x)) ∙ ap (λ b. p x || b) (any_twice p xs)
  where
    twice : (t : Bool) → (t && t) ≡ t
    twice true = refl
    twice false = refl

-- what has one name hasn't another
named_apart : (name other text : List ℕ) → bytes_eq name other ≡ false → (bytes_eq text name && bytes_eq text other) ≡ false
named_apart name other text e = go (bytes_eq text name) refl
  where
    go : (t : Bool) → bytes_eq text name ≡ t → (t && bytes_eq text other) ≡ false
    go true is = ap (λ (n : List ℕ). bytes_eq n other) (same_bytes text name is) ∙ e
    go false is = refl

-- the one of a name has another exactly where the names are one
one_named : (s : plain.Snapshot) (name other : List ℕ) (xs : List plain.Snapshot) → s.name ≡ name → list_any (λ x. bytes_eq x.name name) xs ≡ true
    → (bytes_eq s.name other || false) ≡ list_any (λ x. bytes_eq x.name name && bytes_eq x.name other) xs
one_named s name other xs named some = go (bytes_eq name other) refl
  where
    go : (t : Bool) → bytes_eq name other ≡ t → (bytes_eq s.name other || false) ≡ list_any (λ x. bytes_eq x.name name && bytes_eq x.name other) xs
    go true e =
        let same : name ≡ other = same_bytes name other e in
        ap (λ b. b || false) (bytes_same s.name other (named ∙ same))
        ∙ sym (ap (λ (n : List ℕ). list_any (λ x. bytes_eq x.name name && bytes_eq x.name n) xs) (sym same) ∙ any_twice (λ x. bytes_eq x.name name) xs ∙ some)
    go false e =
        ap (λ (n : List ℕ). bytes_eq n other || false) named ∙ ap (λ b. b || false) e
        ∙ sym (any_none (λ x. bytes_eq x.name name && bytes_eq x.name other) xs (λ x. named_apart name other x.name e))

-- nothing is one of no snapshots
pub one_of_none : (name : Option (List ℕ)) → is_one_of [] name ≡ false
one_of_none None = refl
one_of_none (Some name) = refl

module _ (rows : Rows) (pool : Pool) (are : AreNamed rows pool) where
  pub bookmark_is_there : (name : List ℕ) → is_some (position (λ bookmark. bytes_eq bookmark.name name) rows.bookmarks) ≡ is_some (bookmark_named name pool)
  bookmark_is_there name =
      is_some-position (λ (bookmark : Bookmark). bytes_eq bookmark.name name) rows.bookmarks
      ∙ list_any-Match NamesBookmark (λ bookmark. bytes_eq bookmark.name name) (λ bookmark. bytes_eq bookmark.name name)
      (λ x y is. ap (λ n. bytes_eq n name) (sym is.name)) rows.bookmarks pool.bookmarks are.bookmarks

  -- the snapshots that pass a test go where their rows do
  pub passing_go : (going : Removal) (passes : plain.Snapshot → Bool) → ((x : Snapshot) (y : plain.Snapshot) → NamesSnapshot x y → takes_snapshot going x ≡ passes y)
      → AreGoing going rows (filter passes pool.snapshots)
  passing_go going passes same None = refl
  passing_go going passes same (Some name) =
      list_any-filter passes (λ snapshot. bytes_eq snapshot.name name) pool.snapshots
      ∙ sym (any-Match NamesSnapshot (λ snapshot. takes_snapshot going snapshot && bytes_eq snapshot.name name) (λ snapshot. passes snapshot && bytes_eq snapshot.name name)
      (λ x y is. ap (λ b. b && bytes_eq x.name name) (same x y is) ∙ ap (λ n. passes y && bytes_eq n name) (sym is.name)) rows.snapshots pool.snapshots are.snapshots)

  -- a snapshot alone goes by its name
  one_goes : (name : List ℕ) (snapshot : plain.Snapshot) → snapshot_named name pool ≡ Some snapshot → AreGoing (goes.Snapshot name) rows (snapshot ∷ [])
  one_goes name snapshot found None = refl
  one_goes name snapshot found (Some other) =
      one_named snapshot name other pool.snapshots
      (same_bytes snapshot.name name (found_passes (λ s. bytes_eq s.name name) pool.snapshots snapshot found).1)
      (any_is_found (λ s. bytes_eq s.name name) pool.snapshots ∙ ap is_some found)
      ∙ sym (any-Match NamesSnapshot (λ s. bytes_eq s.name name && bytes_eq s.name other) (λ s. bytes_eq s.name name && bytes_eq s.name other)
      (λ x y is. ap (λ n. bytes_eq n name && bytes_eq n other) (sym is.name)) rows.snapshots pool.snapshots are.snapshots)

  -- and none goes with a bookmark
  none_goes : (name : List ℕ) → AreGoing (goes.Bookmark name) rows []
  none_goes name None = refl
  none_goes name (Some other) = sym (any_none (λ (s : Snapshot). false && bytes_eq s.name other) rows.snapshots (λ x. refl))

  -- the definition's look at what holds what goes, by the rows
  pub held_by_rows : {A : Type 0} (going : Removal) (gone : List plain.Snapshot) (rest : Result A Refusal) → AreGoing going rows gone
      → unless_used (λ partial. is_on going partial.target) gone pool rest
      ≡ unless_there busy_partial (option_map (λ partial. partial.target) (find (λ partial. is_on going partial.target || names_going going rows partial.base) rows.partials))
      (unless_there busy_clone (option_map (λ dataset. dataset.name) (find (λ dataset. names_going going rows dataset.origin) rows.datasets)) rest)
  held_by_rows {A = A} going gone rest are_going =
      told busy_partial (λ partial. partial.target) (find (λ partial. is_on going partial.target || is_one_of gone partial.base) pool.partials) _
      ∙ ap (λ o. unless_there busy_partial o (unless_there (λ dataset. busy_clone dataset.name) (find (λ dataset. is_one_of gone dataset.origin) pool.datasets) rest))
      (sym (found_named NamesPartial (λ partial. is_on going partial.target || names_going going rows partial.base) (λ partial. is_on going partial.target || is_one_of gone partial.base)
      (λ partial. partial.target) (λ partial. partial.target)
      (λ x y is. ap (λ n. is_on going n || names_going going rows x.base) (sym is.target) ∙ ap (λ b. is_on going y.target || b) (ap (names_going going rows) (sym is.base) ∙ sym (are_going y.base)))
      (λ x y is. sym is.target) rows.partials pool.partials are.partials))
      ∙ ap (unless_there busy_partial (option_map (λ partial. partial.target) (find (λ partial. is_on going partial.target || names_going going rows partial.base) rows.partials)))
      (told busy_clone (λ dataset. dataset.name) (find (λ dataset. is_one_of gone dataset.origin) pool.datasets) rest
      ∙ ap (λ o. unless_there busy_clone o rest)
      (sym (found_named NamesDataset (λ dataset. names_going going rows dataset.origin) (λ dataset. is_one_of gone dataset.origin)
      (λ dataset. dataset.name) (λ dataset. dataset.name)
      (λ x y is. ap (names_going going rows) (sym is.origin) ∙ sym (are_going y.origin))
      (λ x y is. sym is.name) rows.datasets pool.datasets are.datasets)))

  -- nothing holds no snapshots
  nothing_held : {A : Type 0} (rest : Result A Refusal) → unless_used (λ partial. false) [] pool rest ≡ rest
  nothing_held rest =
      ap (λ o. unless_there (λ (partial : plain.Partial). busy_partial partial.target) o (unless_there (λ dataset. busy_clone dataset.name) (find (λ dataset. is_one_of [] dataset.origin) pool.datasets) rest))
      (finds_none (λ (partial : plain.Partial). false || is_one_of [] partial.base) pool.partials (λ p. one_of_none p.base))
      ∙ ap (λ o. unless_there (λ (dataset : plain.Dataset). busy_clone dataset.name) o rest)
      (finds_none (λ (dataset : plain.Dataset). is_one_of [] dataset.origin) pool.datasets (λ d. one_of_none d.origin))

  -- a name that is there goes as the definition says
  pub going_is_found : (name : Name) → is_there name rows ≡ true → FindsGoing name rows pool (Ok (going_of name))
  going_is_found (names.Dataset name) there =
      let found = there_is (dataset_named name pool) (sym (dataset_is_there rows pool are name) ∙ there) in
      (filter (is_of name) pool.snapshots, passing_go (goes.Dataset name) (is_of name) (λ x y is. ap (λ n. bytes_eq (dataset_of 64 n) name) (sym is.name)), rw found.1 refl)
  going_is_found (names.Snapshot name) there =
      let found = there_is (snapshot_named name pool) (sym (snapshot_is_there rows pool are name) ∙ there) in (
        found.0 ∷ [],
        one_goes name found.0 found.1,
        ap (λ o. or_else (no_such (names.Snapshot name)) o
            (λ snapshot. unless_used (λ partial. false) (snapshot ∷ []) pool (committed (pool_without (goes.Snapshot name) pool)))) found.1,
      )
  going_is_found (names.Bookmark name) there =
      let found = there_is (bookmark_named name pool) (sym (bookmark_is_there name) ∙ there) in (
        [],
        none_goes name,
        ap (λ o. or_else (no_such (names.Bookmark name)) o (λ bookmark. committed (pool_without (goes.Bookmark name) pool))) found.1
            ∙ sym (nothing_held (committed (pool_without (goes.Bookmark name) pool))),
      )

  -- and one that isn't is refused
  pub going_is_absent : (name : Name) → is_there name rows ≡ false → with_destroyed [] name pool ≡ Err (no_such name)
  going_is_absent (names.Dataset name) absent = rw (none_there (dataset_named name pool) (sym (dataset_is_there rows pool are name) ∙ absent)) refl
  going_is_absent (names.Snapshot name) absent = rw (none_there (snapshot_named name pool) (sym (snapshot_is_there rows pool are name) ∙ absent)) refl
  going_is_absent (names.Bookmark name) absent = rw (none_there (bookmark_named name pool) (sym (bookmark_is_there name) ∙ absent)) refl

-- what holds what goes, by the rows
abbrev pub partial_by_rows : Removal → Rows → Option (List ℕ)
partial_by_rows going rows = option_map (λ partial. partial.target) (find (λ partial. is_on going partial.target || names_going going rows partial.base) rows.partials)

abbrev pub clone_by_rows : Removal → Rows → Option (List ℕ)
clone_by_rows going rows = option_map (λ dataset. dataset.name) (find (λ dataset. names_going going rows dataset.origin) rows.datasets)

-- where nothing does, nothing that goes is used
pub nothing_holds : (going : Removal) (rows : Rows) → partial_by_rows going rows ≡ None → clone_by_rows going rows ≡ None → AreUnused going rows
nothing_holds going rows no_partial no_clone = record {
  origins = none_found (λ (dataset : Dataset). dataset.name) (λ dataset. names_going going rows dataset.origin) rows.datasets no_clone;
  bases =
      All-weaker (λ (partial : Partial). (is_on going partial.target || names_going going rows partial.base) ≡ false) (λ partial. names_going going rows partial.base ≡ false)
      (λ partial h. (or_parts (is_on going partial.target) (names_going going rows partial.base) h).1) rows.partials
      (none_found (λ (partial : Partial). partial.target) (λ partial. is_on going partial.target || names_going going rows partial.base) rows.partials no_partial);
}
