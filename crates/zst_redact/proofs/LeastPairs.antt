-- The least pair of a set at or after one.
use Rattle.std.proofs.Common.{◌≡◌, inl, inr, ℕ, ◌+◌, ◌^◌, ◌<◌, ◌≤◌, true, false, refl, sym, ◌∙◌, subst, ⊎_elim, arith, nat_lt, nat_le, ◌==◌, ◌&&◌}
use Rattle.std.specs.Prelude.{Some, None}
use Rattle.std.proofs.lemmas.Bool.{and_parts, cases_lt, false≢true, false_from_ne_true, ltb-true}
use Rattle.std.proofs.lemmas.Bool.Decides.{nat_tests}
use Rattle.zst_model.specs.fields.Lists.{HasNoneFrom, IsAtOrAfter, IsLeastFrom}
use Rattle.zst_model.specs.sends.Inclusion.{Pairs}
use Rattle.zst_model.specs.states.State.{index_bound, is_number, number_bound}
use Rattle.zst_traverse.specs.Runs.{FindsIn}
use Rattle.zst_redact.specs.Passes.{FindsRunIn, IsRunFrom, PassesNumbers}

-- a set of pairs of numbers and indices alone
pub record AreBounded (pairs : Pairs) : Type 0 where
  pub number : (k i : ℕ) → pairs k i ≡ true → is_number k ≡ true
  pub index : (k i : ℕ) → pairs k i ≡ true → i < index_bound

-- what stands at or after a pair that stands at or after another stands at or after that one too
pub after_both : (k i l j m n : ℕ) → IsAtOrAfter k i l j → IsAtOrAfter l j m n → IsAtOrAfter k i m n
after_both k i l j m n a b = grind arith

-- a search at a pair has passed over all at or after its start: those of the set that stand there stand at or after the pair
pub record IsSearchedTo (pairs : Pairs) (start at : ℕ × ℕ) : Type 0 where
  pub rest : (k i : ℕ) → IsAtOrAfter start.0 start.1 k i → pairs k i ≡ true → IsAtOrAfter at.0 at.1 k i

module _ (pairs : Pairs) (bounded : AreBounded pairs) (start : ℕ × ℕ) (k i : ℕ) (searched : IsSearchedTo pairs start (k, i)) (after : IsAtOrAfter start.0 start.1 k i) where
  -- the first of its number
  least_here : (found : ℕ) → FindsIn (pairs k) i (2 ^ 43) (Some found) → IsLeastFrom pairs start.0 start.1 k found
  unfolding index_bound
  least_here found first = record {
    has = first.passes;
    after = after_both start.0 start.1 k i k found after (inr (refl, first.from_on));
    least = λ l j is at. ⊎_elim
        (λ above. inl above)
        (λ same. inr (
          same.0,
          ⊎_elim
              (λ before. absurd (false≢true (sym (subst (λ (n : ℕ). pairs n j ≡ false) same.0 (first.none_before j same.1 before)) ∙ is)))
              (λ behind. behind)
              (cases_lt j found),
        ))
        (searched.rest l j at is);
  }

  -- and the run of those that follow it
  pub run_here : (first count : ℕ) → FindsRunIn (pairs k) i (2 ^ 43) (Some (first, count)) → IsRunFrom pairs start.0 start.1 (record { object = k; first = first; count = count })
  run_here first count found = record {
    least = least_here first found.first;
    all = λ l j inside.
        let at = parts_of k first count l j inside in
        subst (λ (n : ℕ). pairs n j ≡ true) at.0 (found.all j at.1 at.2);
  }
    where
      parts_of : (o f c l j : ℕ) → (o == l && (nat_le f j && nat_lt j (f + c))) ≡ true → (o ≡ l) × (f ≤ j) × (j < f + c)
      parts_of o f c l j inside = (grind (arith, nat_tests), grind (arith, nat_tests), grind (arith, nat_tests))

  module _ (none : FindsRunIn (pairs k) i (2 ^ 43) None) where
    -- where the number has none, those of the set stand behind it
    behind : (l j : ℕ) → IsAtOrAfter start.0 start.1 l j → pairs l j ≡ true → k < l
    unfolding index_bound
    behind l j at is = ⊎_elim
        (λ above. above)
        (λ same. absurd (false≢true (sym (subst (λ (n : ℕ). pairs n j ≡ false) same.0 (none j same.1 (bounded.index l j is))) ∙ is)))
        (searched.rest l j at is)

    pub none_behind : PassesNumbers pairs (k + 1) None → HasNoneFrom pairs start.0 start.1
    none_behind past l j at = false_from_ne_true (pairs l j) (λ is. let over = behind l j at is in false≢true (sym (past l j (omega (arith, over))) ∙ is))

    pub searched_on : (to : ℕ) → PassesNumbers pairs (k + 1) (Some to) → IsSearchedTo pairs start (to, 0)
    searched_on to past = record {
      rest = λ l j at is.
          let over = behind l j at is in
          ⊎_elim
          (λ before. absurd (false≢true (sym (past l j (omega (arith, over)) before) ∙ is)))
          (λ reached. ⊎_elim (λ less. inl less) (λ most. inr (omega (arith, reached, most), omega arith)) (cases_lt to l))
          (cases_lt l to);
    }

  -- past all numbers there is none
  pub none_left : number_bound ≤ k → HasNoneFrom pairs start.0 start.1
  none_left over l j at = false_from_ne_true (pairs l j) (λ is.
      let less = number_under l (bounded.number l j is) in
      ⊎_elim (λ above. omega (arith, above, less, over)) (λ same. let e = same.0 in omega (arith, e, less, over)) (searched.rest l j at is))
    where
      number_under : (l : ℕ) → is_number l ≡ true → l < number_bound
      number_under l is = ltb-true l number_bound (and_parts (nat_lt 0 l) (nat_lt l number_bound) is).1

-- a search begins at its start
pub searched_none : (pairs : Pairs) (start : ℕ × ℕ) → IsSearchedTo pairs start start
searched_none pairs start = record { rest = λ k i at is. at }
