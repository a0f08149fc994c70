-- Lists of sessions that match, where the one with an id is taken out.
use Rattle.std.proofs.Common.{◌≡◌, ◌≢◌, ◌==◌, ◌<◌, ℕ, zero, suc, Bool, false, not, List, [], ◌∷◌, filter, length, get_or, Option, Some, None, is_some, refl, sym, ap, ◌∙◌, subst, cond, arith}
use Rattle.std.specs.List.{All, AllPairs, position, remove}
use Rattle.std.proofs.lemmas.Bool.{ne_eqb}
use Rattle.std.proofs.lemmas.List.Elements.{All-head, All-tail}
use Rattle.zst_dir.proofs.Matches.{is_some-position, list_any-Match}
use Rattle.zst_dir.specs.RowNames.{Match}
use Rattle.zst_model.proofs.InsertedLaws.{AllPairs-head, AllPairs-tail}
use Rattle.zst_sessions.proofs.Matching.{apart, named}
use Rattle.std.specs.Prelude.{find}

-- what nothing says isn't there
none_is : {A : Type 0} (o : Option A) → is_some o ≡ false → o ≡ None
none_is None is = refl
none_is (Some x) is = absurd (cc)

module _ {A B : Type 0} (Is : A → B → Type 0) (id_of : A → ℕ) (name_of : B → ℕ) (same : (x : A) (y : B) → Is x y → id_of x ≡ name_of y) (n : ℕ) where
  -- where no session of the first list has the id, none of the second has it
  pub none_matched : (xs : List A) (ys : List B) → Match Is xs ys → position (λ x. id_of x == n) xs ≡ None → find (λ y. name_of y == n) ys ≡ None
  none_matched xs ys m none =
      none_is (find (λ y. name_of y == n) ys)
      (sym (list_any-Match Is (λ x. id_of x == n) (λ y. name_of y == n) (λ x y is. ap (λ (k : ℕ). k == n) (same x y is)) xs ys m)
      ∙ sym (is_some-position (λ x. id_of x == n) xs) ∙ ap (λ (o : Option ℕ). is_some o) none)

  -- all others stay
  others_stay : (ys : List B) → All (λ y. n ≢ name_of y) ys → filter (λ y. not (name_of y == n)) ys ≡ ys
  others_stay [] all = refl
  others_stay (y ∷ ys) all =
      ap (λ (b : Bool). cond (not b) (y ∷ filter (λ z. not (name_of z == n)) ys) (filter (λ z. not (name_of z == n)) ys))
      (ne_eqb (name_of y) n (λ e. All-head (λ z. n ≢ name_of z) y ys all (sym e)))
      ∙ ap (λ (rest : List B). y ∷ rest) (others_stay ys (All-tail (λ z. n ≢ name_of z) y ys all))

  -- one at a place is taken out of the first list, and that with its id out of the second
  pub remove_match : (xs : List A) (ys : List B) (place : ℕ) (d : A) → AllPairs (λ a b. name_of a ≢ name_of b) ys → Match Is xs ys → place < length xs → id_of (get_or xs place d) ≡ n
      → Match Is (remove xs place) (filter (λ y. not (name_of y == n)) ys)
  remove_match [] ys place d pairs m lt at = absurd (omega (arith, lt))
  remove_match (a ∷ xs) [] place d pairs m lt at = absurd m
  remove_match (a ∷ xs) (y ∷ ys) zero d pairs m lt at =
      let is : name_of y ≡ n = sym (same a y m.0) ∙ at in
      let rest : All (λ b. n ≢ name_of b) ys = subst (λ (k : ℕ). All (λ b. k ≢ name_of b) ys) is (AllPairs-head (λ a b. name_of a ≢ name_of b) y ys pairs) in
      let left : filter (λ z. not (name_of z == n)) (y ∷ ys) ≡ ys =
      ap (λ (b : Bool). cond (not b) (y ∷ filter (λ z. not (name_of z == n)) ys) (filter (λ z. not (name_of z == n)) ys)) (named (name_of y) n is) ∙ others_stay ys rest in
      subst (Match Is xs) (sym left) m.1
  remove_match (a ∷ xs) (y ∷ ys) (suc place) d pairs m lt at =
      let head = AllPairs-head (λ a b. name_of a ≢ name_of b) y ys pairs in
      let differs = apart Is id_of name_of same xs ys place d (name_of y) n m.1 (omega (arith, lt)) at head in
      let left : filter (λ z. not (name_of z == n)) (y ∷ ys) ≡ y ∷ filter (λ z. not (name_of z == n)) ys =
      ap (λ (b : Bool). cond (not b) (y ∷ filter (λ z. not (name_of z == n)) ys) (filter (λ z. not (name_of z == n)) ys)) (ne_eqb (name_of y) n differs) in
      subst (Match Is (a ∷ remove xs place)) (sym left) (m.0, remove_match xs ys place d (AllPairs-tail (λ a b. name_of a ≢ name_of b) y ys pairs) m.1 (omega (arith, lt)) at)
