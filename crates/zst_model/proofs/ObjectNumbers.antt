-- Which numbers an object may have.
use Rattle.std.proofs.Common.{inl, inr, ◌⊎◌, ◌≡◌, ℕ, ◌<◌, ◌≤◌, true, false, None, sym, ap, ◌∙◌, arith, nat_lt}
use Rattle.std.proofs.lemmas.Bool.{cases_lt, and_from, and_parts, true≢false, ltb-true, lt-ltb}
use Rattle.zst_model.specs.states.State.{State, IsState, is_number, number_bound}

-- a number that an object may have is over 0
pub number_over_none : (k : ℕ) → is_number k ≡ true → 0 < k
number_over_none k is = ltb-true 0 k ((and_parts (nat_lt 0 k) (nat_lt k number_bound) is).0)

-- and one that is less than the bound and not 0 is such a number
pub number_from : (k : ℕ) → 0 < k → k < number_bound → is_number k ≡ true
number_from k some below = and_from (nat_lt 0 k) (nat_lt k number_bound) (lt-ltb 0 k some) (lt-ltb k number_bound below)

-- what isn't such a number has no object
pub absent_outside : (state : State) → IsState state → (k : ℕ) → is_number k ≡ false → state k ≡ None
absent_outside state s k e = go (cases_lt 0 k) (cases_lt k number_bound)
  where
    go : (0 < k) ⊎ (k ≤ 0) → (k < number_bound) ⊎ (number_bound ≤ k) → state k ≡ None
    go (inr z) b = let same : k ≡ 0 = omega arith in ap state same ∙ s.zero
    go (inl p) (inr g) = s.bounded k g
    go (inl p) (inl l) = absurd (true≢false (sym (number_from k p l) ∙ e))
