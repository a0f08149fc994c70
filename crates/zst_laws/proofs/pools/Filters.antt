-- What a filter leaves of a list, and what a test of all of a list says of each.
use Rattle.std.proofs.Common.{◌≡◌, inl, inr, Bool, true, false, List, [], ◌∷◌, Contains, filter, refl, sym, ap, subst, ◌∙◌}
use Rattle.std.specs.List.{list_all, list_any}
use Rattle.std.proofs.lemmas.Bool.{true≢false, and_from, and_parts, or_cases}
use Rattle.zst_model.proofs.InsertedLaws.{contains_cases, contains_first, contains_later, contains_nothing}
use Rattle.zst_model.proofs.FilteredLists.{contains-filter}

-- a filter that leaves nothing drops all
pub filter_none : {A : Type 0} (p : A → Bool) (xs : List A) → filter p xs ≡ [] → (x : A) → Contains xs x → p x ≡ false
filter_none p xs h x there = go (p x) refl
  where
    go : (t : Bool) → p x ≡ t → p x ≡ false
    go true e = absurd (contains_nothing x (subst (λ ys. Contains ys x) h (contains-filter p xs x there e)))
    go false e = e

-- where some of a list passes, it has one that does
pub some_passes : {A : Type 0} (p : A → Bool) (xs : List A) → list_any p xs ≡ true → (x : A) × Contains xs x × (p x ≡ true)
some_passes p [] h = absurd (true≢false (sym h))
some_passes p (y ∷ ys) h = elim (or_cases (p y) (list_any p ys) h) [
  | inl e ↦ (y, contains_first y ys, e)
  | inr later ↦ let found = some_passes p ys later in (found.0, contains_later y ys found.0 found.1, found.2)
]

-- what passes for all of a list passes for each of it, and the other way round
pub each_passes : {A : Type 0} (test : A → Bool) (xs : List A) (x : A) → list_all test xs ≡ true → Contains xs x → test x ≡ true
each_passes test [] x all there = absurd (contains_nothing x there)
each_passes test (y ∷ ys) x all there = elim (contains_cases y ys x there) [
  | inl e ↦ ap test (sym e) ∙ (and_parts (test y) _ all).0
  | inr k ↦ each_passes test ys x (and_parts (test y) _ all).1 k
]

pub all_pass : {A : Type 0} (test : A → Bool) (xs : List A) → ((x : A) → Contains xs x → test x ≡ true) → list_all test xs ≡ true
all_pass test [] each = refl
all_pass test (x ∷ xs) each = and_from (test x) _ (each x (contains_first x xs)) (all_pass test xs (λ y k. each y (contains_later x xs y k)))
