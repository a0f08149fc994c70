-- The only one of some elements that passes a test.
use Rattle.std.proofs.Common.{◌≡◌, ◌↔◌, ◌⊎◌, inl, inr, ℕ, zero, suc, ◌+◌, ◌<◌, ◌≤◌, Bool, true, false, List, [], ◌∷◌, length, Option, Some, None, Contains, get_or, refl, sym, ap, ◌∙◌, subst, ⊎_elim, arith}
use Rattle.std.specs.List.{position, position_or_len}
use Rattle.std.proofs.lemmas.Bool.{cases_lt, false≢true, false_from_ne_true}
use Rattle.std.proofs.lemmas.Grind.{common_steps}
use Rattle.std.proofs.lemmas.List.{get_or_default}
use Rattle.std.proofs.lemmas.List.Quantifiers.{position-Some}
use Rattle.std.proofs.lemmas.List.Sums.{fails_before_first}
use Rattle.zst_dir.specs.RowNames.{Match, StandAlike}
use Rattle.zst_model.specs.pools.Pool.{Snapshot}
use Rattle.zst_check.specs.Findings.{StandsAtPlace}

-- and both stand at the same place
pub alike_at : {A B : Type 0} (Is : A → B → Type 0) (xs : List A) (ys : List B) → Match Is xs ys → (k : ℕ) (d : A) (e : B) → k < length xs → StandAlike xs ys (get_or xs k d) (get_or ys k e)
alike_at Is [] ys m k d e inside = absurd (omega (arith, inside))
alike_at Is (x ∷ xs) [] m k d e inside = absurd m
alike_at Is (x ∷ xs) (y ∷ ys) m zero d e inside = inl (refl, refl)
alike_at Is (x ∷ xs) (y ∷ ys) m (suc k) d e inside = inr (alike_at Is xs ys m.1 k d e (omega (arith, inside)))

module _ {A : Type 0} (test : A → Bool) (xs : List A) where
  -- of so many first elements none passes, or only the one at this place
  abbrev pub PassesOnly : ℕ → Option ℕ → Type 0
  PassesOnly count None = (k : ℕ) (d : A) → k < count → test (get_or xs k d) ≡ false
  PassesOnly count (Some place) = (place < count) × ((d : A) → test (get_or xs place d) ≡ true) × ((k : ℕ) (d : A) → k < count → (k ≡ place → ⊥) → test (get_or xs k d) ≡ false)

  -- of none, none does
  pub passes_none : PassesOnly 0 None
  passes_none k d under = absurd (omega (arith, under))

  below_next : (count k : ℕ) → k < count + 1 → (k < count) ⊎ (k ≡ count)
  below_next count k under = ⊎_elim (λ before. inl before) (λ over. inr (omega (arith, under, over))) (cases_lt k count)

  -- one more that passes is the first
  pub passes_first : (count : ℕ) → PassesOnly count None → ((d : A) → test (get_or xs count d) ≡ true) → PassesOnly (count + 1) (Some count)
  passes_first count none here = (
    omega arith,
    here,
    λ k d under other. ⊎_elim (λ before. none k d before) (λ same. absurd (other same)) (below_next count k under),
  )

  -- one more that fails changes nothing
  pub passes_on : (count : ℕ) (found : Option ℕ) → PassesOnly count found → ((d : A) → test (get_or xs count d) ≡ false) → PassesOnly (count + 1) found
  passes_on count None none fails = λ k d under. ⊎_elim (λ before. none k d before) (λ same. subst (λ (n : ℕ). test (get_or xs n d) ≡ false) (sym same) (fails d)) (below_next count k under)
  passes_on count (Some place) one fails = let less = one.0 in (
    omega (arith, less),
    one.1,
    λ k d under other. ⊎_elim (λ before. one.2 k d before other) (λ same. subst (λ (n : ℕ). test (get_or xs n d) ≡ false) (sym same) (fails d)) (below_next count k under),
  )

  -- where no two pass, the first that does is the only one
  pub passes_position : ((i j : ℕ) (d : A) → i < j → j < length xs → test (get_or xs i d) ≡ true → test (get_or xs j d) ≡ true → ⊥) → (found : Option ℕ) → found ≡ position test xs → PassesOnly (length xs) found
  passes_position differ None is = λ k d under. fails_before_first test xs k d (let past = none_before (sym is) in omega (arith, past, under))
    where
      none_before : position test xs ≡ None → length xs ≤ position_or_len test xs
      none_before none = grind (arith, common_steps)
  passes_position differ (Some place) is = (
    inside,
    λ d. (position-Some test xs place d (sym is)).1,
    λ k d under other. false_from_ne_true (test (get_or xs k d)) (λ passes. ⊎_elim
        (λ before. false≢true (sym ((position-Some test xs place d (sym is)).2 k before) ∙ passes))
        (λ from. differ place k d (omega (arith, from, other)) under (position-Some test xs place d (sym is)).1 passes)
        (cases_lt k place)),
  )
    where
      inside : place < length xs
      inside = grind (arith, common_steps)

module _ (test : Snapshot → Bool) (snapshots : List Snapshot) where
  -- the only snapshot that passes stands at the place that was found, and where none was found, none passes
  pub stands_only : (found : Option ℕ) → PassesOnly test snapshots (length snapshots) found → (snapshot : Snapshot) → (Contains snapshots snapshot × (test snapshot ≡ true)) ↔ StandsAtPlace snapshots found snapshot
  stands_only None none snapshot = (
    λ is. let there = is.0 in absurd (false≢true (sym (none there.0 snapshot there.1) ∙ (ap test there.2 ∙ is.1))),
    λ at. absurd at,
  )
  stands_only (Some place) one snapshot = (
    λ is. let there = is.0 in λ d. ⊎_elim
        (λ same. subst (λ (n : ℕ). get_or snapshots n d ≡ snapshot) same (get_or_default snapshots there.0 d snapshot there.1 ∙ there.2))
        (λ other. absurd (false≢true (sym (one.2 there.0 snapshot there.1 other) ∙ (ap test there.2 ∙ is.1))))
        (equal_or there.0 place),
    λ at. ((place, one.0, at snapshot), subst (λ (s : Snapshot). test s ≡ true) (at snapshot) (one.1 snapshot)),
  )
    where
      equal_or : (a b : ℕ) → (a ≡ b) ⊎ (a ≡ b → ⊥)
      equal_or a b = ⊎_elim (λ below. inr (λ same. omega (arith, below, same))) (λ from. ⊎_elim (λ above. inr (λ same. omega (arith, above, same))) (λ to. inl (omega (arith, from, to))) (cases_lt b a)) (cases_lt a b)
