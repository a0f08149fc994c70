-- Tests of two names.
use Rattle.std.proofs.Common.{inl, inr, subst, ◌≡◌, ◌≢◌, ℕ, true, false, List, sym, ◌∙◌}
use Rattle.std.specs.Str.{bytes_eq}
use Rattle.std.proofs.lemmas.Bool.{true≢false, false_from_ne_true}
use Rattle.zst_model.specs.pools.Pool.{is_before}
use Rattle.zst_model.proofs.OrderLaws.{before_cases, before_trans, same_bytes}

-- names that differ test as different
pub differ : (a b : List ℕ) → a ≢ b → bytes_eq a b ≡ false
differ a b h = false_from_ne_true (bytes_eq a b) (λ e. h (same_bytes a b e))

-- a name stands before those that don't stand before one that it stands before
pub before_upto : (a b c : List ℕ) → is_before a b ≡ true → is_before c b ≡ false → is_before a c ≡ true
before_upto a b c before h = elim (before_cases b c) [
  | inl first ↦ before_trans a b c before first
  | inr (inl same) ↦ subst (λ n. is_before a n ≡ true) same before
  | inr (inr behind) ↦ absurd (true≢false (sym behind ∙ h))
]
