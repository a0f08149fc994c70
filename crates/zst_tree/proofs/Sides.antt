-- A number is below another, is it, or is above it.
use Rattle.std.proofs.Common.{◌≡◌, ◌⊎◌, inl, inr, ⊎_elim, ℕ, zero, suc, ◌<◌, arith}

pub sides : (m n : ℕ) → (m < n) ⊎ ((m ≡ n) ⊎ (n < m))
sides zero zero = inr (inl (omega arith))
sides zero (suc n) = inl (omega arith)
sides (suc m) zero = inr (inr (omega arith))
sides (suc m) (suc n) = ⊎_elim (λ a. inl (omega arith)) (λ b. ⊎_elim (λ e. inr (inl (omega arith))) (λ g. inr (inr (omega arith))) b) (sides m n)
