-- What is named stands where the row that names it is found.
use Rattle.std.proofs.Common.{◌≡◌, ◌≢◌, ℕ, zero, suc, ◌<◌, ◌≤◌, true, List, [], ◌∷◌, length, get_or, inl, inr, ◌⊎◌, Some, None, is_some, Contains, sym, ap, ◌∙◌, subst, arith}
use Rattle.std.specs.List.{AllPairs, HoldsAt, position}
use Rattle.std.specs.Str.{bytes_eq}
use Rattle.std.proofs.lemmas.Bool.{cases_lt, true≢false}
use Rattle.std.proofs.lemmas.List.{get_or_default}
use Rattle.std.proofs.lemmas.List.Quantifiers.{position-Some}
use Rattle.zst_dir.specs.RowNames.{Match}
use Rattle.zst_dir.proofs.Lookups.{none_passes}
use Rattle.zst_dir.proofs.Matches.{length-Match}
use Rattle.zst_model.specs.pools.Pool.{is_before}
use Rattle.zst_model.proofs.OrderLaws.{same_bytes, bytes_same, not_before_itself}

-- what stands at a place of lists that match
pub Match-at : {A B : Type 0} (Is : A → B → Type 0) (xs : List A) (ys : List B) → Match Is xs ys → (i : ℕ) (d : A) (e : B) → i < length xs → Is (get_or xs i d) (get_or ys i e)
Match-at Is [] ys m i d e inside = absurd (omega (arith, inside))
Match-at Is (x ∷ xs) [] m i d e inside = absurd m
Match-at Is (x ∷ xs) (y ∷ ys) m zero d e inside = m.0
Match-at Is (x ∷ xs) (y ∷ ys) m (suc i) d e inside = Match-at Is xs ys m.1 i d e (omega (arith, inside))

-- something stands at each place of a list
pub some_at : {A : Type 0} (xs : List A) (i : ℕ) → i < length xs → (x : A) × HoldsAt (λ other. other ≡ x) xs i
some_at [] i inside = absurd (omega (arith, inside))
some_at (x ∷ xs) i inside = (get_or (x ∷ xs) i x, λ d. get_or_default (x ∷ xs) i d x inside)

-- it is one of the list
pub Contains-at : {A : Type 0} (xs : List A) (i : ℕ) (x : A) → i < length xs → HoldsAt (λ other. other ≡ x) xs i → Contains xs x
Contains-at xs i x inside at = (i, inside, at x)

-- and what a list contains stands somewhere in it
pub at_place : {A : Type 0} (xs : List A) (x : A) → (there : Contains xs x) → HoldsAt (λ other. other ≡ x) xs there.0
at_place xs x there d = get_or_default xs there.0 d x there.1 ∙ there.2

-- names that rise differ
pub rising_differ : {A : Type 0} (named : A → List ℕ) (xs : List A) → AllPairs (λ a b. is_before (named a) (named b) ≡ true) xs → AllPairs (λ a b. named a ≢ named b) xs
rising_differ named xs rise i j d less inside same =
    not_before_itself (named (get_or xs j d)) (subst (λ n. is_before n (named (get_or xs j d)) ≡ true) same (rise i j d less inside))

module _ {A B : Type 0} (Is : A → B → Type 0) (named : A → List ℕ) (called : B → List ℕ) (same : (x : A) (y : B) → Is x y → called y ≡ named x)
    (rows : List A) (others : List B) (m : Match Is rows others) (name : List ℕ) where
  -- what stands at a place is called as its row
  called_at : (i : ℕ) (d : A) (e : B) → i < length rows → called (get_or others i e) ≡ named (get_or rows i d)
  called_at i d e inside = same (get_or rows i d) (get_or others i e) (Match-at Is rows others m i d e inside)

  -- where no row has a name, nothing is called so
  pub none_called : position (λ row. bytes_eq (named row) name) rows ≡ None → (y : B) → Contains others y → called y ≡ name → ⊥
  none_called none y there is =
      let inside : there.0 < length rows = omega (arith, there.1, length-Match Is rows others m) in
      let one = some_at rows there.0 inside in
      let passes : bytes_eq (named one.0) name ≡ true =
      bytes_same (named one.0) name (ap named (sym (one.1 one.0)) ∙ sym (called_at there.0 one.0 y inside) ∙ ap called there.2 ∙ is) in
      true≢false (sym passes ∙ none_passes (λ row. bytes_eq (named row) name) rows one.0 (ap is_some none) (there.0, inside, one.1 one.0))

  module _ (place : ℕ) (found : position (λ row. bytes_eq (named row) name) rows ≡ Some place) where
    -- the place of the row that is found is one of the lists
    pub found_inside : place < length rows
    found_inside = go rows found
      where
        go : (xs : List A) → position (λ row. bytes_eq (named row) name) xs ≡ Some place → place < length xs
        go [] is = absurd (cc)
        go (x ∷ xs) is = (position-Some (λ row. bytes_eq (named row) name) (x ∷ xs) place x is).0

    -- the row has the name
    pub found_named : (d : A) → named (get_or rows place d) ≡ name
    found_named d = same_bytes (named (get_or rows place d)) name (position-Some (λ row. bytes_eq (named row) name) rows place d found).1

    -- what stands there is one of the list, and is called so
    pub found_called : (y : B) → HoldsAt (λ other. other ≡ y) others place → Contains others y × (called y ≡ name)
    found_called y at =
        let one = some_at rows place found_inside in
        let inside : place < length others = omega (arith, found_inside, length-Match Is rows others m) in
        (Contains-at others place y inside at, ap called (sym (at y)) ∙ called_at place one.0 y found_inside ∙ found_named one.0)

    -- where names differ, what is called so stands there
    pub called_found : AllPairs (λ a b. named a ≢ named b) rows → (y : B) → Contains others y → called y ≡ name → HoldsAt (λ other. other ≡ y) others place
    called_found differ y there is = go (cases_lt place there.0) (cases_lt there.0 place)
      where
        inside : there.0 < length rows
        inside = omega (arith, there.1, length-Match Is rows others m)

        row : A
        row = (some_at rows place found_inside).0

        own : named (get_or rows there.0 row) ≡ name
        own = sym (called_at there.0 row y inside) ∙ ap called there.2 ∙ is

        go : (place < there.0) ⊎ (there.0 ≤ place) → (there.0 < place) ⊎ (place ≤ there.0) → HoldsAt (λ other. other ≡ y) others place
        go (inl less) either = absurd (differ place there.0 row less inside (found_named row ∙ sym own))
        go (inr most) (inl less) = absurd (differ there.0 place row less found_inside (own ∙ sym (found_named row)))
        go (inr most) (inr least) =
            let one : there.0 ≡ place = omega (arith, most, least) in subst (λ k. HoldsAt (λ other. other ≡ y) others k) one (at_place others y there)
