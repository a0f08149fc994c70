-- Tests of all indices below a bound.
use Rattle.std.proofs.Common.{inl, inr, ◌≡◌, ℕ, zero, suc, ◌<◌, Bool, true, false, refl, sym, ap, ◌∙◌, arith}
use Rattle.std.proofs.lemmas.Bool.{cases_eq, or_from, or_left, or_right}
use Rattle.zst_model.specs.sends.Inclusion.{any_below}

-- a test that an index passes is passed by some
pub any_passes : (test : ℕ → Bool) (n i : ℕ) → i < n → test i ≡ true → any_below test n ≡ true
unfolding any_below
any_passes test zero i l h = absurd (omega arith)
any_passes test (suc n) i l h = elim (cases_eq i n) [
  | inl same ↦ or_left (test n) (any_below test n) (ap test (sym same) ∙ h)
  | inr other ↦ or_right (test n) (any_below test n) (any_passes test n i (omega arith) h)
]

-- and one that each index fails by none
pub none_pass : (test : ℕ → Bool) (bound : ℕ) → ((i : ℕ) → i < bound → test i ≡ false) → any_below test bound ≡ false
unfolding any_below
none_pass test zero none = refl
none_pass test (suc bound) none = or_from (test bound) (any_below test bound) (none bound (omega arith)) (none_pass test bound (λ i less. none i (omega arith)))
