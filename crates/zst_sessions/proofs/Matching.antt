-- Lists of sessions that match, where one is changed or one comes.
use Rattle.std.proofs.Common.{◌≡◌, ◌≢◌, ◌<◌, ℕ, zero, suc, true, List, [], ◌∷◌, ◌++◌, length, map, set, get_or, refl, sym, ap, ◌∙◌, subst, ◌==◌, arith}
use Rattle.std.specs.List.{All, AllPairs}
use Rattle.std.proofs.lemmas.List.Elements.{All-head, All-tail}
use Rattle.zst_dir.specs.RowNames.{Match}
use Rattle.zst_model.proofs.InsertedLaws.{AllPairs-head, AllPairs-tail}

module _ {A B : Type 0} (Is : A → B → Type 0) where
  pub snoc_match : (xs : List A) (ys : List B) (x : A) (y : B) → Match Is xs ys → Is x y → Match Is (xs ++ x ∷ []) (ys ++ y ∷ [])
  snoc_match [] [] x y m is = (is, tt)
  snoc_match [] (b ∷ ys) x y m is = absurd m
  snoc_match (a ∷ xs) [] x y m is = absurd m
  snoc_match (a ∷ xs) (b ∷ ys) x y m is = (m.0, snoc_match xs ys x y m.1 is)

  module _ (id_of : A → ℕ) (name_of : B → ℕ) (same : (x : A) (y : B) → Is x y → id_of x ≡ name_of y) where
    pub apart : (xs : List A) (ys : List B) (place : ℕ) (d : A) (a n : ℕ) → Match Is xs ys → place < length xs → id_of (get_or xs place d) ≡ n → All (λ y. a ≢ name_of y) ys → a ≢ n
    apart [] ys place d a n m lt at all = absurd (omega (arith, lt))
    apart (x ∷ xs) [] place d a n m lt at all = absurd m
    apart (x ∷ xs) (y ∷ ys) zero d a n m lt at all = λ e. All-head (λ y. a ≢ name_of y) y ys all (e ∙ sym at ∙ same x y m.0)
    apart (x ∷ xs) (y ∷ ys) (suc place) d a n m lt at all = apart xs ys place d a n m.1 (omega (arith, lt)) at (All-tail (λ y. a ≢ name_of y) y ys all)

    -- one changed in both lists
    module _ (n : ℕ) (g : B → B) (stays : (y : B) → name_of y ≢ n → g y ≡ y) where
      others : (ys : List B) → All (λ y. n ≢ name_of y) ys → map g ys ≡ ys
      others [] all = refl
      others (y ∷ ys) all =
          ap (λ (z : B). z ∷ map g ys) (stays y (λ e. All-head (λ y. n ≢ name_of y) y ys all (sym e)))
          ∙ ap (λ (rest : List B). y ∷ rest) (others ys (All-tail (λ y. n ≢ name_of y) y ys all))

      pub change_match : (xs : List A) (ys : List B) (place : ℕ) (d x : A) → AllPairs (λ a b. name_of a ≢ name_of b) ys → Match Is xs ys → place < length xs → id_of (get_or xs place d) ≡ n
          → ((y : B) → Is (get_or xs place d) y → Is x (g y)) → Match Is (set xs place x) (map g ys)
      change_match [] ys place d x pairs m lt at is = absurd (omega (arith, lt))
      change_match (a ∷ xs) [] place d x pairs m lt at is = absurd m
      change_match (a ∷ xs) (y ∷ ys) zero d x pairs m lt at is =
          let named : name_of y ≡ n = sym (same a y m.0) ∙ at in
          let apart_all : All (λ b. n ≢ name_of b) ys = subst (λ (k : ℕ). All (λ b. k ≢ name_of b) ys) named (AllPairs-head (λ a b. name_of a ≢ name_of b) y ys pairs) in
          (is y m.0, subst (Match Is xs) (sym (others ys apart_all)) m.1)
      change_match (a ∷ xs) (y ∷ ys) (suc place) d x pairs m lt at is =
          let head = AllPairs-head (λ a b. name_of a ≢ name_of b) y ys pairs in
          let differs = apart xs ys place d (name_of y) n m.1 (omega (arith, lt)) at head in
          (subst (Is a) (sym (stays y differs)) m.0, change_match xs ys place d x (AllPairs-tail (λ a b. name_of a ≢ name_of b) y ys pairs) m.1 (omega (arith, lt)) at is)

-- and for itself passes
pub named : (n m : ℕ) → n ≡ m → (n == m) ≡ true
named n m e = grind (arith, e)
