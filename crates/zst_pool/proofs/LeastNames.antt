-- The least of some names, found from the first to the last.
use Rattle.std.proofs.Common.{◌≡◌, ℕ, ◌+◌, ◌<◌, ◌≤◌, Bool, true, false, cond, inl, inr, List, [], ◌∷◌, ◌++◌, length, map, get_or, take, Option, Some, None, filter, refl, sym, ap, ◌∙◌}
use Rattle.std.proofs.lemmas.Bool.{true≢false, false_from_ne_true}
use Rattle.std.proofs.lemmas.List.{append-nil, map-append, take_all, take_more}
use Rattle.std.proofs.lemmas.List.Elements.{filter-append}
use Rattle.zst_model.specs.pools.Pool.{is_before}
use Rattle.zst_model.specs.pools.Step.{least_name, lesser_name}
use Rattle.zst_model.proofs.OrderLaws.{before_cases, before_trans, not_before_itself}

-- the lesser of two names is the same in either order
lesser-swap : (x y : List ℕ) → lesser_name x (Some y) ≡ lesser_name y (Some x)
lesser-swap x y = elim (before_cases x y) [
  | inl first ↦ rw (first, false_from_ne_true (is_before y x) (λ b. not_before_itself x (before_trans x y x first b))) refl
  | inr (inl same) ↦ ap (λ n. lesser_name x (Some n)) (sym same) ∙ ap (λ n. lesser_name n (Some x)) same
  | inr (inr second) ↦ rw (second, false_from_ne_true (is_before x y) (λ b. not_before_itself x (before_trans x y x b second))) refl
]

-- what doesn't stand before a name stands after what stands before that
after : (z x y : List ℕ) → is_before z y ≡ true → is_before z x ≡ false → is_before x y ≡ true
after z x y first apart = elim (before_cases x z) [
  | inl less ↦ before_trans x z y less first
  | inr (inl same) ↦ ap (λ n. is_before n y) same ∙ first
  | inr (inr more) ↦ absurd (true≢false (sym more ∙ apart))
]

-- the least of two names and a third, whichever comes first
lesser-twice : (x y : List ℕ) (least : Option (List ℕ)) → lesser_name x (Some (lesser_name y least)) ≡ lesser_name y (Some (lesser_name x least))
lesser-twice x y None = lesser-swap x y
lesser-twice x y (Some z) = go (is_before z y) (is_before z x) refl refl
  where
    go : (a b : Bool) → is_before z y ≡ a → is_before z x ≡ b → lesser_name x (Some (cond a z y)) ≡ lesser_name y (Some (cond b z x))
    go true true of_y of_x = rw (of_x, of_y) refl
    go true false of_y of_x = rw (of_x, after z x y of_y of_x) refl
    go false true of_y of_x = rw (of_y, after z y x of_x of_y) refl
    go false false of_y of_x = lesser-swap x y

-- one more name at the end is the lesser where it stands before the others
least-last : (xs : List (List ℕ)) (y : List ℕ) → least_name (xs ++ y ∷ []) ≡ Some (lesser_name y (least_name xs))
least-last [] y = refl
least-last (x ∷ xs) y = ap (λ o. Some (lesser_name x o)) (least-last xs y) ∙ ap (λ n. Some n) (lesser-twice x y (least_name xs))

-- where no name is the least there is none
pub least-none : {A : Type 0} (name_of : A → List ℕ) (xs : List A) → least_name (map name_of xs) ≡ None → xs ≡ []
least-none name_of [] none = refl
least-none name_of (x ∷ xs) none = absurd (cc)

-- the least name of the elements that pass a test
abbrev pub least_where : {A : Type 0} → (A → List ℕ) → (A → Bool) → List A → Option (List ℕ)
least_where name_of test xs = least_name (map name_of (filter test xs))

module _ {A : Type 0} (name_of : A → List ℕ) (test : A → Bool) where
  -- of one more element
  one_more : (xs : List A) (y : A) → least_where name_of test (xs ++ y ∷ []) ≡ cond (test y) (Some (lesser_name (name_of y) (least_where name_of test xs))) (least_where name_of test xs)
  one_more xs y =
      ap (λ (l : List A). least_name (map name_of l)) (filter-append test xs (y ∷ []))
      ∙ ap least_name (map-append name_of (filter test xs) (filter test (y ∷ [])))
      ∙ go (test y)
    where
      names : List (List ℕ)
      names = map name_of (filter test xs)

      go : (t : Bool) → least_name (names ++ map name_of (cond t (y ∷ []) [])) ≡ cond t (Some (lesser_name (name_of y) (least_name names))) (least_name names)
      go true = least-last names (name_of y)
      go false = ap least_name (append-nil names)

  -- of the elements up to a place
  up_to : (xs : List A) (i : ℕ) (x : A) → i < length xs → x ≡ get_or xs i x
      → least_where name_of test (take (i + 1) xs) ≡ cond (test x) (Some (lesser_name (name_of x) (least_where name_of test (take i xs)))) (least_where name_of test (take i xs))
  up_to xs i x inside is =
      ap (least_where name_of test) (take_more xs i x inside) ∙ one_more (take i xs) (get_or xs i x)
      ∙ ap (λ (y : A). cond (test y) (Some (lesser_name (name_of y) (least_where name_of test (take i xs)))) (least_where name_of test (take i xs))) (sym is)

  pub least-passes : (xs : List A) (i : ℕ) (x : A) (least : Option (List ℕ)) → i < length xs → x ≡ get_or xs i x → test x ≡ true → least ≡ least_where name_of test (take i xs)
      → Some (lesser_name (name_of x) least) ≡ least_where name_of test (take (i + 1) xs)
  least-passes xs i x least inside is passes so = ap (λ o. Some (lesser_name (name_of x) o)) so ∙ sym (up_to xs i x inside is ∙ rw passes refl)

  pub least-fails : (xs : List A) (i : ℕ) (x : A) (least : Option (List ℕ)) → i < length xs → x ≡ get_or xs i x → test x ≡ false → least ≡ least_where name_of test (take i xs)
      → least ≡ least_where name_of test (take (i + 1) xs)
  least-fails xs i x least inside is fails so = so ∙ sym (up_to xs i x inside is ∙ rw fails refl)

  pub least-all : (xs : List A) (i : ℕ) (least : Option (List ℕ)) → length xs ≤ i → least ≡ least_where name_of test (take i xs) → least ≡ least_where name_of test xs
  least-all xs i least all so = so ∙ ap (least_where name_of test) (take_all i xs all)
