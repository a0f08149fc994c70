-- The first element of a list that passes, place by place.
use Rattle.std.proofs.Common.{◌≡◌, ℕ, zero, suc, ◌+◌, ◌<◌, ◌≤◌, Bool, true, false, cond, List, [], ◌∷◌, length, drop, get_or, inl, inr, Some, None, refl, sym, ap, ◌∙◌, subst, arith, add-one}
use Rattle.std.proofs.lemmas.List.{drop_all, get_or_default}
use Rattle.std.specs.List.{find}
use Rattle.zst_dir.proofs.Matches.{length-Match}
use Rattle.zst_dir.specs.RowNames.{Match, StandAlike}
use Rattle.zst_plan.specs.Places.{StandsAt}

-- what stands at a place of lists that match
stands_at : {A B : Type 0} (Is : A → B → Type 0) (rows : List A) (others : List B) → Match Is rows others → (i : ℕ) (d : A) → i < length rows
    → (y : B) × (drop i others ≡ y ∷ drop (suc i) others) × StandAlike rows others (get_or rows i d) y × Is (get_or rows i d) y
stands_at Is [] others m i d below = absurd (omega (arith, below))
stands_at Is (x ∷ rows) [] m i d below = absurd m
stands_at Is (x ∷ rows) (y ∷ others) m zero d below = (y, refl, inl (refl, refl), m.0)
stands_at Is (x ∷ rows) (y ∷ others) m (suc i) d below =
    let rest = stands_at Is rows others m.1 i d (omega (arith, below)) in
    (rest.0, rest.1, inr rest.2, rest.3)

-- none of the first ones passes
abbrev pub NoneBefore : {B : Type 0} → (B → Bool) → List B → ℕ → Type 0
NoneBefore q others i = find q others ≡ find q (drop i others)

module _ {A B : Type 0} (Is : A → B → Type 0) (q : B → Bool) (rows : List A) (others : List B) (m : Match Is rows others) where
  module _ (i : ℕ) (row : A) (below : i < length rows) (is : row ≡ get_or rows i row) (none : NoneBefore q others i) (b : Bool) (same : (y : B) → Is row y → b ≡ q y) where
    -- where the next passes it is the first
    pub first_here : b ≡ true → (y : B) × (find q others ≡ Some y) × StandsAt rows others i y × Is row y
    first_here passes =
        let s = stands_at Is rows others m i row below in
        let row_is : Is row s.0 = subst (λ (r : A). Is r s.0) (sym is) s.3 in (
          s.0,
          none ∙ ap (λ (ys : List B). find q ys) s.1 ∙ ap (λ c. cond c (Some s.0) (find q (drop (suc i) others))) (sym (same s.0 row_is) ∙ passes),
          record {
            below = below;
            row = get_or rows i row;
            is_there = get_or_default rows i (get_or rows i row) row below;
            alike = s.2;
          },
          row_is,
        )

    -- where it doesn't, none up to it passes
    pub first_later : b ≡ false → NoneBefore q others (i + 1)
    first_later fails =
        let s = stands_at Is rows others m i row below in
        let row_is : Is row s.0 = subst (λ (r : A). Is r s.0) (sym is) s.3 in
        none ∙ ap (λ (ys : List B). find q ys) s.1 ∙ ap (λ c. cond c (Some s.0) (find q (drop (suc i) others))) (sym (same s.0 row_is) ∙ fails)
        ∙ ap (λ n. find q (drop n others)) (sym (add-one i))

  -- at the end none passes
  pub none_passes : (i : ℕ) → length rows ≤ i → NoneBefore q others i → find q others ≡ None
  none_passes i end none = none ∙ ap (λ (ys : List B). find q ys) (drop_all i others (omega (arith, end, length-Match Is rows others m)))
