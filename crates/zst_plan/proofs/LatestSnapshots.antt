-- The latest snapshot of a dataset, place by place.
use Rattle.std.proofs.Common.{◌≡◌, ℕ, suc, ◌+◌, ◌<◌, ◌≤◌, Bool, true, false, cond, List, [], ◌∷◌, ◌++◌, length, take, get_or, zero, inl, inr, Option, Some, refl, sym, ap, ◌∙◌, subst, arith, add-one}
use Rattle.std.proofs.lemmas.List.{append-nil, get_or_default, take_all}
use Rattle.std.proofs.lemmas.List.Elements.{filter-append}
use Rattle.std.specs.List.{filter}
use Rattle.zst_dir.proofs.Matches.{length-Match}
use Rattle.zst_dir.specs.RowNames.{Match, StandAlike}
use Rattle.zst_plan.specs.Places.{FindAlike, StandsAt}
use Rattle.zst_plan.specs.RecvPlan.{last_of}

-- the last of a list with one more
last_more : {A : Type 0} (xs : List A) (x : A) → last_of (xs ++ x ∷ []) ≡ Some x
last_more [] x = refl
last_more (y ∷ []) x = refl
last_more (y ∷ z ∷ xs) x = last_more (z ∷ xs) x

-- what stands at a place of lists that match
stands_at : {A B : Type 0} (Is : A → B → Type 0) (rows : List A) (others : List B) → Match Is rows others → (i : ℕ) (d : A) → i < length rows
    → (y : B) × (take (suc i) others ≡ take i others ++ y ∷ []) × StandAlike rows others (get_or rows i d) y × Is (get_or rows i d) y
stands_at Is [] others m i d below = absurd (omega (arith, below))
stands_at Is (x ∷ rows) [] m i d below = absurd m
stands_at Is (x ∷ rows) (y ∷ others) m zero d below = (y, refl, inl (refl, refl), m.0)
stands_at {B = B} Is (x ∷ rows) (y ∷ others) m (suc i) d below =
    let rest = stands_at Is rows others m.1 i d (omega (arith, below)) in
    (rest.0, ap (λ (ys : List B). y ∷ ys) rest.1, inr rest.2, rest.3)

-- the last that passes among the first ones
abbrev pub latest_in : {B : Type 0} → (B → Bool) → List B → ℕ → Option B
latest_in q others i = last_of (filter q (take i others))

-- it, with one more
latest_more : {B : Type 0} (q : B → Bool) (others : List B) (i : ℕ) (y : B) (b : Bool) → take (suc i) others ≡ take i others ++ y ∷ [] → q y ≡ b
    → latest_in q others (i + 1) ≡ last_of (filter q (take i others) ++ cond b (y ∷ []) [])
latest_more {B = B} q others i y b more is =
    ap (λ n. last_of (filter q (take n others))) (add-one i) ∙ ap (λ (ys : List B). last_of (filter q ys)) more ∙ ap (λ (ys : List B). last_of ys) (filter-append q (take i others) (y ∷ []))
    ∙ ap (λ c. last_of (filter q (take i others) ++ cond c (y ∷ []) [])) is

module _ {A B : Type 0} (Is : A → B → Type 0) (p : A → Bool) (q : B → Bool) (same : (x : A) (y : B) → Is x y → p x ≡ q y) (rows : List A) (others : List B) (m : Match Is rows others) where
  module _ (i : ℕ) (row : A) (below : i < length rows) (is : row ≡ get_or rows i row) where
    -- where it passes it is the latest, and where it doesn't the one before stays
    pub latest_passes : p row ≡ true → FindAlike (StandsAt rows others) (Some i) (latest_in q others (i + 1))
    latest_passes passes =
        let s = stands_at Is rows others m i row below in
        let row_is : Is row s.0 = subst (λ (r : A). Is r s.0) (sym is) s.3 in
        let eq : latest_in q others (i + 1) ≡ Some s.0 = latest_more q others i s.0 true s.1 (sym (same row s.0 row_is) ∙ passes) ∙ last_more (filter q (take i others)) s.0 in
        subst (FindAlike (StandsAt rows others) (Some i)) (sym eq) (record {
          below = below;
          row = get_or rows i row;
          is_there = get_or_default rows i (get_or rows i row) row below;
          alike = s.2;
        })

    pub latest_fails : (found : Option ℕ) → p row ≡ false → FindAlike (StandsAt rows others) found (latest_in q others i) → FindAlike (StandsAt rows others) found (latest_in q others (i + 1))
    latest_fails found fails before =
        let s = stands_at Is rows others m i row below in
        let row_is : Is row s.0 = subst (λ (r : A). Is r s.0) (sym is) s.3 in
        let eq : latest_in q others (i + 1) ≡ latest_in q others i =
        latest_more q others i s.0 false s.1 (sym (same row s.0 row_is) ∙ fails) ∙ ap (λ (ys : List B). last_of ys) (append-nil (filter q (take i others))) in
        subst (FindAlike (StandsAt rows others) found) (sym eq) before

  -- at the end
  pub latest_all : (found : Option ℕ) (i : ℕ) → length rows ≤ i → FindAlike (StandsAt rows others) found (latest_in q others i) → FindAlike (StandsAt rows others) found (last_of (filter q others))
  latest_all found i end alike =
      subst (λ (ys : List B). FindAlike (StandsAt rows others) found (last_of (filter q ys))) (take_all i others (omega (arith, end, length-Match Is rows others m))) alike
