-- What a test of some of a list says of each.
use Rattle.std.proofs.Common.{◌≡◌, inl, inr, Bool, true, false, List, [], ◌∷◌, Contains, refl, sym, ap, ◌∙◌}
use Rattle.std.specs.List.{list_any}
use Rattle.std.proofs.lemmas.Bool.{true≢false, or_left, or_right}
use Rattle.zst_model.proofs.InsertedLaws.{contains_cases, contains_nothing}

-- a test that one of a list passes is passed by some
pub passed_by_some : {A : Type 0} (p : A → Bool) (xs : List A) (x : A) → Contains xs x → p x ≡ true → list_any p xs ≡ true
passed_by_some p [] x there passes = absurd (contains_nothing x there)
passed_by_some p (y ∷ ys) x there passes = elim (contains_cases y ys x there) [
  | inl e ↦ or_left (p y) (list_any p ys) (ap p e ∙ passes)
  | inr later ↦ or_right (p y) (list_any p ys) (passed_by_some p ys x later passes)
]

-- and where none passes, each fails
pub failed_by_each : {A : Type 0} (p : A → Bool) (xs : List A) → list_any p xs ≡ false → (x : A) → Contains xs x → p x ≡ false
failed_by_each p xs h x there = go (p x) refl
  where
    go : (t : Bool) → p x ≡ t → p x ≡ false
    go true e = absurd (true≢false (sym (passed_by_some p xs x there e) ∙ h))
    go false e = e
