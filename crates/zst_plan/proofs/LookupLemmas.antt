-- What a look-up in the directory finds, and what is found in the pool.
use Rattle.std.proofs.Common.{◌≡◌, ℕ, Bool, false, List, [], ◌∷◌, get_or, Option, Some, None, is_some, option_map, Result, Ok, Err, refl, sym, ap, ◌∙◌, subst}
use Rattle.std.specs.List.{find, position}
use Rattle.std.proofs.lemmas.List.{get_or_default}
use Rattle.std.proofs.lemmas.List.Quantifiers.{position-Some}
use Rattle.zst_dir.specs.RowNames.{Match}
use Rattle.zst_dir.proofs.Matches.{find-Match, is_some-position, list_any-Match}
use Rattle.std.specs.Borrow.{Bor}
use Rattle.std.specs.Option.{IsSomeAnd, MatchOption, ok_or, option_map_or}
use Rattle.std.specs.Result.{IsErrAnd}
use Rattle.std.specs.Str.{bytes_eq}
use Rattle.zst_dir.specs.RowNames.{AreNamed, NamesBookmark, NamesDataset, NamesSnapshot}
use Rattle.zst_dir.specs.Rows.{Rows}
use Rattle.zst_dir.specs.declared.rows.Bookmark.{Bookmark}
use Rattle.zst_dir.specs.declared.rows.Dataset.{Dataset}
use Rattle.zst_dir.specs.declared.rows.Snapshot.{Snapshot}
use Rattle.zst_model.specs.declared.refusals.subjects.Name.TheVariants as names
use Rattle.zst_model.specs.declared.sends.ask.FromName.TheVariants.{Snap, Book}
use Rattle.zst_model.specs.pools.Ancestry.{OfSnapshot, OfBookmark}
use Rattle.zst_model.specs.pools.Pool.{Pool, bookmark_named, dataset_named, snapshot_named}
use Rattle.zst_model.specs.pools.Pool as plain
use Rattle.zst_model.specs.sends.SendPlan.{absent, find_bookmark, find_snapshot, find_source}
use Rattle.zst_model.specs.states.AppliedItems.{◌>>=◌}
use Rattle.zst_plan.specs.Places.{AnswerAlike, FindAlike, StandsAt}
use Rattle.zst_plan.specs.Sources.{FoundBookmark, FoundDataset, FoundSnapshot, IsSource}
use Rattle.zst_plan.specs.declared.source.Source.TheVariants as sources
use Rattle.zst_plan.proofs.AlikeAnswers.{at_names}

-- what the look-ups in both lists find
pub both_find : {A B : Type 0} (Is : A → B → Type 0) (p : A → Bool) (q : B → Bool) → ((x : A) (y : B) → Is x y → p x ≡ q y)
    → (rows : List A) (others : List B) → Match Is rows others → (place : Option ℕ) → place ≡ position p rows → FindAlike (StandsAt rows others) place (find q others)
both_find {B = B} Is p q same rows others m None none = go (find q others) (ap is_some none ∙ is_some-position p rows ∙ list_any-Match Is p q same rows others m)
  where
    go : (found : Option B) → false ≡ is_some found → FindAlike (StandsAt rows others) None found
    go None e = tt
    go (Some y) e = absurd (cc)
both_find Is p q same [] others m (Some place) is = absurd (cc)
both_find {A = A} {B = B} Is p q same (row ∷ rows) others m (Some place) is =
    let found = find-Match Is p q same row (row ∷ rows) others m place (sym is) in
    let below = (position-Some p (row ∷ rows) place row (sym is)).0 in
    subst (FindAlike (StandsAt (row ∷ rows) others) (Some place)) (sym found.1) (record {
      below = below;
      row = get_or (row ∷ rows) place row;
      is_there = get_or_default (row ∷ rows) place (get_or (row ∷ rows) place row) row below;
      alike = found.2;
    })

-- so an answer that is refused where nothing is found
pub answers_alike : {A B E : Type 0} (Is : A → B → Type 0) (found : Option A) (other : Option B) (fault : E) → FindAlike Is found other
    → AnswerAlike Is (ok_or found fault) (ok_or other fault)
answers_alike Is None None fault alike = refl
answers_alike Is None (Some y) fault alike = absurd alike
answers_alike Is (Some x) None fault alike = absurd alike
answers_alike Is (Some x) (Some y) fault alike = alike

-- or with a fault that is made where nothing is found
pub found_or : {A B E : Type 0} (Is : A → B → Type 0) (found : Option A) (other : Option B) (fault : E) (result : Result A E) {Made : E → Type 0} → ((made : E) → Made made → made ≡ fault)
    → MatchOption found (IsErrAnd result Made) (λ x. result ≡ Ok x) → FindAlike Is found other → AnswerAlike Is result (ok_or other fault)
found_or Is None None fault (Ok x) is cases alike = absurd cases
found_or Is None None fault (Err made) is cases alike = is made cases
found_or Is None (Some y) fault result is cases alike = absurd alike
found_or Is (Some x) None fault result is cases alike = absurd alike
found_or {A = A} {E = E} Is (Some x) (Some y) fault result is cases alike = subst (λ (r : Result A E). AnswerAlike Is r (Ok y)) (sym cases) alike

pub answers_by : {A B E : Type 0} (Is : A → B → Type 0) (found : Option A) (other : Option B) (made fault : E) (result : Result A E) → result ≡ ok_or found made → made ≡ fault
    → FindAlike Is found other → AnswerAlike Is result (ok_or other fault)
answers_by {A = A} {E = E} Is found other made fault result is same alike =
    subst (λ (r : Result A E). AnswerAlike Is r (ok_or other fault)) (sym (is ∙ ap (λ (e : E). ok_or found e) same)) (answers_alike Is found other fault alike)

-- what was found, as one that there may be
pub wrapped : {A B : Type 0} (Is : A → B → Type 0) (found : Option A) (wraps : Option (Option A)) (other : Option B) {At : A → Option A → Type 0} → ((x : A) (w : Option A) → At x w → w ≡ Some x)
    → MatchOption found (wraps ≡ None) (λ x. IsSomeAnd wraps (At x)) → FindAlike Is found other → FindAlike (FindAlike Is) wraps (option_map Some other)
wrapped Is None None None is cases alike = tt
wrapped Is None (Some w) other is cases alike = absurd (cc)
wrapped Is None None (Some y) is cases alike = absurd alike
wrapped Is (Some x) None other is cases alike = absurd cases
wrapped Is (Some x) (Some w) None is cases alike = absurd alike
wrapped {A = A} Is (Some x) (Some w) (Some y) is cases alike = subst (λ (o : Option A). FindAlike Is o (Some y)) (sym (is x w cases)) alike

-- a value of what was found, or another
pub value_found : {A B V : Type 0} (Is : A → B → Type 0) (found : Option A) (other : Option B) (value : B → V) (none result : V) {At : A → Type 0} {Else : Type 0} → ((x : A) (y : B) → At x → Is x y → result ≡ value y)
    → (Else → result ≡ none) → MatchOption found Else At → FindAlike Is found other → result ≡ option_map_or value other none
value_found Is None None value none result is otherwise cases alike = otherwise cases
value_found Is None (Some y) value none result is otherwise cases alike = absurd alike
value_found Is (Some x) None value none result is otherwise cases alike = absurd alike
value_found Is (Some x) (Some y) value none result is otherwise cases alike = is x y cases alike

-- the rows at the places that were found
pub rows_found : {A B : Type 0} (Is : ℕ → B → Type 0) (Found : A → B → Type 0) (place : Option ℕ) (row : Option A) (other : Option B) {At : ℕ → A → Type 0}
    → ((p : ℕ) (x : A) (y : B) → At p x → Is p y → Found x y) → MatchOption place (row ≡ None) (λ p. IsSomeAnd row (At p)) → FindAlike Is place other → FindAlike Found row other
rows_found Is Found None None None names cases alike = tt
rows_found Is Found None (Some x) other names cases alike = absurd (cc)
rows_found Is Found None None (Some y) names cases alike = absurd alike
rows_found Is Found (Some p) None other names cases alike = absurd cases
rows_found Is Found (Some p) (Some x) None names cases alike = absurd alike
rows_found Is Found (Some p) (Some x) (Some y) names cases alike = names p x y cases alike

module _ (rows : Rows) (pool : Pool) (are : AreNamed rows pool) where
  -- what the directory's look-ups find
  pub snapshots_find : (name : List ℕ) (place : Option ℕ) → place ≡ position (λ snapshot. bytes_eq snapshot.name name) rows.snapshots
      → FindAlike (StandsAt rows.snapshots pool.snapshots) place (snapshot_named name pool)
  snapshots_find name place is =
      both_find NamesSnapshot (λ snapshot. bytes_eq snapshot.name name) (λ snapshot. bytes_eq snapshot.name name) (λ x y names. ap (λ n. bytes_eq n name) (sym names.name))
      rows.snapshots pool.snapshots are.snapshots place is

  pub bookmarks_find : (name : List ℕ) (place : Option ℕ) → place ≡ position (λ bookmark. bytes_eq bookmark.name name) rows.bookmarks
      → FindAlike (StandsAt rows.bookmarks pool.bookmarks) place (bookmark_named name pool)
  bookmarks_find name place is =
      both_find NamesBookmark (λ bookmark. bytes_eq bookmark.name name) (λ bookmark. bytes_eq bookmark.name name) (λ x y names. ap (λ n. bytes_eq n name) (sym names.name))
      rows.bookmarks pool.bookmarks are.bookmarks place is

  pub datasets_find : (name : List ℕ) (place : Option ℕ) → place ≡ position (λ dataset. bytes_eq dataset.name name) rows.datasets
      → FindAlike (StandsAt rows.datasets pool.datasets) place (dataset_named name pool)
  datasets_find name place is =
      both_find NamesDataset (λ dataset. bytes_eq dataset.name name) (λ dataset. bytes_eq dataset.name name) (λ x y names. ap (λ n. bytes_eq n name) (sym names.name))
      rows.datasets pool.datasets are.datasets place is

  -- the rows at these places name what was found
  pub snapshot_row : (place : ℕ) (row : Bor Snapshot) (other : Option plain.Snapshot) → row.now ≡ get_or rows.snapshots place row.now
      → FindAlike (StandsAt rows.snapshots pool.snapshots) (Some place) other → FindAlike FoundSnapshot (Some row) other
  snapshot_row place row None is alike = absurd alike
  snapshot_row place row (Some other) is alike = at_names NamesSnapshot rows.snapshots pool.snapshots place row.now other are.snapshots alike is

  pub bookmark_row : (place : ℕ) (row : Bor Bookmark) (other : Option plain.Bookmark) → row.now ≡ get_or rows.bookmarks place row.now
      → FindAlike (StandsAt rows.bookmarks pool.bookmarks) (Some place) other → FindAlike FoundBookmark (Some row) other
  bookmark_row place row None is alike = absurd alike
  bookmark_row place row (Some other) is alike = at_names NamesBookmark rows.bookmarks pool.bookmarks place row.now other are.bookmarks alike is

  pub dataset_row : (place : ℕ) (row : Bor Dataset) (other : Option plain.Dataset) → row.now ≡ get_or rows.datasets place row.now
      → FindAlike (StandsAt rows.datasets pool.datasets) (Some place) other → FindAlike FoundDataset (Some row) other
  dataset_row place row None is alike = absurd alike
  dataset_row place row (Some other) is alike = at_names NamesDataset rows.datasets pool.datasets place row.now other are.datasets alike is

  pub row_names : (place : ℕ) (row : Snapshot) (other : plain.Snapshot) → StandsAt rows.snapshots pool.snapshots place other → row ≡ get_or rows.snapshots place row → NamesSnapshot row other
  row_names place row other at is = at_names NamesSnapshot rows.snapshots pool.snapshots place row other are.snapshots at is

  -- and the source that was found is the one that is asked for
  pub snapshot_source : (name : List ℕ) (place : ℕ) (row : Bor Snapshot) → row.now ≡ get_or rows.snapshots place row.now
      → AnswerAlike (StandsAt rows.snapshots pool.snapshots) (Ok place) (find_snapshot name pool)
      → AnswerAlike (λ source. FindAlike (IsSource rows pool) (Some source)) (Ok (sources.Snapshot place row)) (find_source (Some (Snap name)) pool)
  snapshot_source name place row is alike = go (snapshot_named name pool) alike
    where
      go : (o : Option plain.Snapshot) → AnswerAlike (StandsAt rows.snapshots pool.snapshots) (Ok place) (ok_or o (absent (names.Snapshot name)))
          → AnswerAlike (λ source. FindAlike (IsSource rows pool) (Some source)) (Ok (sources.Snapshot place row)) (ok_or o (absent (names.Snapshot name)) >>= (λ snapshot. Ok (Some (OfSnapshot snapshot))))
      go None alike = absurd alike
      go (Some other) alike = (at_names NamesSnapshot rows.snapshots pool.snapshots place row.now other are.snapshots alike is, alike)

  pub bookmark_source : (name : List ℕ) (place : ℕ) (row : Bor Bookmark) → row.now ≡ get_or rows.bookmarks place row.now
      → AnswerAlike (StandsAt rows.bookmarks pool.bookmarks) (Ok place) (find_bookmark name pool)
      → AnswerAlike (λ source. FindAlike (IsSource rows pool) (Some source)) (Ok (sources.Bookmark place row)) (find_source (Some (Book name)) pool)
  bookmark_source name place row is alike = go (bookmark_named name pool) alike
    where
      go : (o : Option plain.Bookmark) → AnswerAlike (StandsAt rows.bookmarks pool.bookmarks) (Ok place) (ok_or o (absent (names.Bookmark name)))
          → AnswerAlike (λ source. FindAlike (IsSource rows pool) (Some source)) (Ok (sources.Bookmark place row)) (ok_or o (absent (names.Bookmark name)) >>= (λ bookmark. Ok (Some (OfBookmark bookmark))))
      go None alike = absurd alike
      go (Some other) alike = (at_names NamesBookmark rows.bookmarks pool.bookmarks place row.now other are.bookmarks alike is, alike)
