-- The snapshot that a bookmark was made of, and those behind a snapshot that have a guid.
use Rattle.std.proofs.Common.{◌≡◌, ◌↔◌, ℕ, ◌<◌, Bool, true, false, ◌&&◌, ◌==◌, List, [], ◌∷◌, length, Option, Some, None, Contains, is_some, get_or, refl, sym, ap, ◌∙◌, subst, arith}
use Rattle.std.specs.List.{position, position_or_len}
use Rattle.std.specs.Str.{bytes_eq}
use Rattle.std.proofs.lemmas.Bool.{and_from, and_parts}
use Rattle.std.proofs.lemmas.Bool.Decides.{nat_tests}
use Rattle.std.proofs.lemmas.List.Elements.{Contains-get_or}
use Rattle.std.proofs.lemmas.Slice.Eq.{bytes_eq-Decides}
use Rattle.zst_dir.specs.RowNames.{Match, NamesBookmark, NamesSnapshot}
use Rattle.zst_dir.specs.declared.rows.Bookmark as rows
use Rattle.zst_dir.specs.declared.rows.Snapshot.{Snapshot as Row}
use Rattle.zst_dir.proofs.Matches.{length-Match}
use Rattle.zst_model.specs.pools.Ancestry.{OfBookmark, OfSnapshot}
use Rattle.zst_model.specs.pools.Pool.{Bookmark, IsPool, Pool, Snapshot, dataset_of_bookmark, dataset_of_snapshot}
use Rattle.zst_model.specs.pools.Soundness.{Dated, Sound}
use Rattle.zst_model.specs.sends.SendPlan.{comes_before}
use Rattle.zst_laws.specs.RememberedStates.{IsOwn}
use Rattle.zst_laws.proofs.pools.SendPlans.{before_tested}
use Rattle.zst_check.specs.Findings.{StandsAtPlace}
use Rattle.zst_check.specs.Redactions.{IsBehind, IsOnlyBehind, is_own_row}
use Rattle.zst_check.proofs.NamedPlaces.{Match-at}
use Rattle.zst_check.proofs.OnlyPlaces.{PassesOnly, passes_position, stands_only}

-- tests that answer alike of what matches pass first at the same place
first-Match : {A B : Type 0} (Is : A → B → Type 0) (p : A → Bool) (q : B → Bool) → ((x : A) (y : B) → Is x y → p x ≡ q y) → (xs : List A) (ys : List B) → Match Is xs ys → position_or_len p xs ≡ position_or_len q ys
first-Match Is p q same [] [] m = refl
first-Match Is p q same [] (y ∷ ys) m = absurd m
first-Match Is p q same (x ∷ xs) [] m = absurd m
first-Match Is p q same (x ∷ xs) (y ∷ ys) m = rw (same x y m.0, first-Match Is p q same xs ys m.1) refl

pub position-Match : {A B : Type 0} (Is : A → B → Type 0) (p : A → Bool) (q : B → Bool) → ((x : A) (y : B) → Is x y → p x ≡ q y) → (xs : List A) (ys : List B) → Match Is xs ys → position p xs ≡ position q ys
position-Match Is p q same xs ys m = rw (first-Match Is p q same xs ys m, length-Match Is xs ys m) refl

-- whether a snapshot is a bookmark's own
abbrev pub is_own : Bookmark → Snapshot → Bool
is_own bookmark snapshot = snapshot.number == bookmark.number && bytes_eq (dataset_of_snapshot snapshot) (dataset_of_bookmark bookmark)

own_tested : (bookmark : Bookmark) (snapshot : Snapshot) → is_own bookmark snapshot ≡ true → IsOwn (OfBookmark bookmark) snapshot
own_tested bookmark snapshot passes =
    let parts = and_parts (snapshot.number == bookmark.number) (bytes_eq (dataset_of_snapshot snapshot) (dataset_of_bookmark bookmark)) passes in
    record { dataset = sym ((bytes_eq-Decides (dataset_of_snapshot snapshot) (dataset_of_bookmark bookmark)).0 parts.1); number = same snapshot.number bookmark.number parts.0 }
  where
    same : (a b : ℕ) → (a == b) ≡ true → b ≡ a
    same a b test = grind (arith, nat_tests)

own_passes : (bookmark : Bookmark) (snapshot : Snapshot) → IsOwn (OfBookmark bookmark) snapshot → is_own bookmark snapshot ≡ true
own_passes bookmark snapshot is =
    and_from (snapshot.number == bookmark.number) (bytes_eq (dataset_of_snapshot snapshot) (dataset_of_bookmark bookmark)) (same snapshot.number bookmark.number is.number)
    ((bytes_eq-Decides (dataset_of_snapshot snapshot) (dataset_of_bookmark bookmark)).1 (sym is.dataset))
  where
    same : (a b : ℕ) → b ≡ a → (a == b) ≡ true
    same a b e = grind (arith, nat_tests)

-- the row of the bookmark's dataset with its number is that of its own snapshot
pub own_stands : (all : List Row) (pool : Pool) (row : rows.Bookmark) (bookmark : Bookmark) (found : Option ℕ)
    → found ≡ position (is_own_row row) all
    → Match NamesSnapshot all pool.snapshots → Dated pool → NamesBookmark row bookmark → (snapshot : Snapshot)
    → (Contains pool.snapshots snapshot × IsOwn (OfBookmark bookmark) snapshot) ↔ StandsAtPlace pool.snapshots found snapshot
own_stands all pool row bookmark found is match dated names snapshot =
    let only = passes_position (is_own bookmark) pool.snapshots differ found (is ∙ position-Match NamesSnapshot (is_own_row row) (is_own bookmark) alike all pool.snapshots match) in
    let stands = stands_only (is_own bookmark) pool.snapshots found only snapshot in
    (λ own. stands.0 (own.0, own_passes bookmark snapshot own.1), λ at. let back = stands.1 at in (back.0, own_tested bookmark snapshot back.1))
  where
    alike : (other : Row) (s : Snapshot) → NamesSnapshot other s → is_own_row row other ≡ is_own bookmark s
    alike other s is = rw (is.number, is.name, names.number, names.name) refl

    differ : (i j : ℕ) (d : Snapshot) → i < j → j < length pool.snapshots → is_own bookmark (get_or pool.snapshots i d) ≡ true → is_own bookmark (get_or pool.snapshots j d) ≡ true → ⊥
    differ i j d before inside one other =
        let first = own_tested bookmark (get_or pool.snapshots i d) one in
        let second = own_tested bookmark (get_or pool.snapshots j d) other in
        let rise = dated.rise i j d before inside (sym first.dataset ∙ second.dataset) in
        omega (arith, rise, first.number, second.number)

-- whether a snapshot has a guid and stands behind another one
abbrev pub is_later : Pool → Snapshot → ℕ → Snapshot → Bool
is_later pool own guid snapshot = snapshot.guid == guid && comes_before pool (OfSnapshot own) snapshot

module _ (pool : Pool) (lawful : IsPool pool) (sound : Sound pool) (own : Snapshot) (own_there : Contains pool.snapshots own) (guid : ℕ) where
  later_tested : (snapshot : Snapshot) → Contains pool.snapshots snapshot → is_later pool own guid snapshot ≡ true → IsBehind pool own guid snapshot
  later_tested snapshot there passes =
      let parts = and_parts (snapshot.guid == guid) (comes_before pool (OfSnapshot own) snapshot) passes in
      record { there = there; guid_is = same snapshot.guid guid parts.0; later = (before_tested pool (OfSnapshot own) snapshot lawful sound own_there there).0 parts.1 }
    where
      same : (a b : ℕ) → (a == b) ≡ true → a ≡ b
      same a b test = grind (arith, nat_tests)

  later_passes : (snapshot : Snapshot) → IsBehind pool own guid snapshot → is_later pool own guid snapshot ≡ true
  later_passes snapshot is =
      and_from (snapshot.guid == guid) (comes_before pool (OfSnapshot own) snapshot) (same snapshot.guid guid is.guid_is) ((before_tested pool (OfSnapshot own) snapshot lawful sound own_there is.there).1 is.later)
    where
      same : (a b : ℕ) → a ≡ b → (a == b) ≡ true
      same a b e = grind (arith, nat_tests)

  -- the place of the only one that passes is that of the only snapshot that is so
  pub only_stands : (found : Option ℕ) → PassesOnly (is_later pool own guid) pool.snapshots (length pool.snapshots) found → (snapshot : Snapshot) → IsOnlyBehind pool own guid snapshot ↔ StandsAtPlace pool.snapshots found snapshot
  only_stands found only snapshot = (
    λ is. (stands snapshot).0 (is.behind.there, later_passes snapshot is.behind),
    λ at. let back = (stands snapshot).1 at in record {
      behind = later_tested snapshot back.0 back.1;
      alone = λ other is. same_place found other snapshot ((stands other).0 (is.there, later_passes other is)) at;
    },
  )
    where
      stands : (s : Snapshot) → (Contains pool.snapshots s × (is_later pool own guid s ≡ true)) ↔ StandsAtPlace pool.snapshots found s
      stands s = stands_only (is_later pool own guid) pool.snapshots found only s

      same_place : (found : Option ℕ) (a b : Snapshot) → StandsAtPlace pool.snapshots found a → StandsAtPlace pool.snapshots found b → a ≡ b
      same_place None a b here there = absurd here
      same_place (Some place) a b here there = sym (here a) ∙ there a

  -- where two are so, none is the only one
  pub none_of_two : (i j : ℕ) → i < j → j < length pool.snapshots → ((d : Snapshot) → is_later pool own guid (get_or pool.snapshots i d) ≡ true) → ((d : Snapshot) → is_later pool own guid (get_or pool.snapshots j d) ≡ true)
      → (snapshot : Snapshot) → IsOnlyBehind pool own guid snapshot ↔ StandsAtPlace pool.snapshots None snapshot
  none_of_two i j before inside one other snapshot = (
    λ is.
        let first = is.alone (get_or pool.snapshots i snapshot) (later_tested (get_or pool.snapshots i snapshot) (at i (omega (arith, before, inside))) (one snapshot)) in
        let second = is.alone (get_or pool.snapshots j snapshot) (later_tested (get_or pool.snapshots j snapshot) (at j inside) (other snapshot)) in
        lawful.named.snapshots_differ i j snapshot before inside (ap (λ (s : Snapshot). s.name) (first ∙ sym second)),
    λ none. absurd none,
  )
    where
      at : (k : ℕ) → k < length pool.snapshots → Contains pool.snapshots (get_or pool.snapshots k snapshot)
      at k under = Contains-get_or pool.snapshots k snapshot under

-- the row at a place names the snapshot that stands there
pub row_named : (all : List Row) (snapshots : List Snapshot) → Match NamesSnapshot all snapshots → (k : ℕ) (row : Row) → row ≡ get_or all k row → k < length all → (d : Snapshot) → NamesSnapshot row (get_or snapshots k d)
row_named all snapshots match k row is inside d = subst (λ (other : Row). NamesSnapshot other (get_or snapshots k d)) (sym is) (Match-at NamesSnapshot all snapshots match k row d inside)

-- what is there is something
pub some_of : (found : Option ℕ) → is_some found ≡ true → (place : ℕ) × (found ≡ Some place)
some_of None is = absurd (cc)
some_of (Some place) is = (place, refl)

pub none_of : (found : Option ℕ) → is_some found ≡ false → found ≡ None
none_of None is = refl
none_of (Some place) is = absurd (cc)
