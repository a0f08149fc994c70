-- What a filter leaves of a list.
use Rattle.std.proofs.Common.{◌≡◌, inl, inr, ◌⊎◌, Bool, true, false, cond, List, [], ◌∷◌, Contains, filter, refl, sym, ap, subst, ◌∙◌}
use Rattle.zst_model.proofs.InsertedLaws.{contains_cases, contains_first, contains_later, contains_nothing}

-- what a filter leaves was there and passes
pub filter_parts : {A : Type 0} (p : A → Bool) (xs : List A) (x : A) → Contains (filter p xs) x → Contains xs x × (p x ≡ true)
filter_parts p [] x there = absurd (contains_nothing x there)
filter_parts {A = A} p (y ∷ ys) x there = go (p y) refl there (λ later. filter_parts p ys x later)
  where
    go : (t : Bool) → p y ≡ t → Contains (cond t (y ∷ filter p ys) (filter p ys)) x → (Contains (filter p ys) x → Contains ys x × (p x ≡ true))
        → Contains (y ∷ ys) x × (p x ≡ true)
    go true is there on = elim (contains_cases y (filter p ys) x there) [
      | inl e ↦ (subst (Contains (y ∷ ys)) e (contains_first y ys), ap p (sym e) ∙ is)
      | inr later ↦ (let had = on later in (contains_later y ys x had.0, had.1))
    ]
    go false is there on = let had = on there in (contains_later y ys x had.0, had.1)

pub filter_contains : {A : Type 0} (p : A → Bool) (xs : List A) (x : A) → Contains (filter p xs) x → Contains xs x
filter_contains p xs x there = (filter_parts p xs x there).0

-- and what was there and passes is left
pub contains-filter : {A : Type 0} (p : A → Bool) (xs : List A) (x : A) → Contains xs x → p x ≡ true → Contains (filter p xs) x
contains-filter p [] x h passes = h
contains-filter {A = A} p (y ∷ ys) x h passes = go (p y) refl (contains-filter p ys x) (contains_cases y ys x h)
  where
    go : (t : Bool) → p y ≡ t → (Contains ys x → p x ≡ true → Contains (filter p ys) x) → (y ≡ x) ⊎ Contains ys x
        → Contains (cond t (y ∷ filter p ys) (filter p ys)) x
    go true e rest (inl same) = subst (Contains (y ∷ filter p ys)) same (contains_first y (filter p ys))
    go true e rest (inr later) = contains_later y (filter p ys) x (rest later passes)
    go false e rest (inl same) = let f = ap p same in absurd (cc)
    go false e rest (inr later) = rest later passes

-- a filter whose test all pass leaves all
pub filter_all : {A : Type 0} (p : A → Bool) (xs : List A) → ((x : A) → Contains xs x → p x ≡ true) → filter p xs ≡ xs
filter_all p [] h = refl
filter_all p (y ∷ ys) h = rw (h y (contains_first y ys)) (ap (λ rest. y ∷ rest) (filter_all p ys (λ x k. h x (contains_later y ys x k))))
