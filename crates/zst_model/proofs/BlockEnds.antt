-- Where the blocks of an object end.
use Rattle.std.proofs.Common.{ℕ, zero, suc, ◌≤◌, Bool, true, false, cond, arith}
use Rattle.zst_model.specs.states.State.{Block, is_hole, past_last}

past_step : (t : Bool) (n rest : ℕ) → rest ≤ n → cond t rest (suc n) ≤ suc n
past_step true n rest h = omega arith
past_step false n rest h = omega arith

-- an end is at most the bound of indices
pub past_bounded : (blocks : ℕ → Block) (n : ℕ) → past_last blocks n ≤ n
unfolding past_last
past_bounded blocks zero = omega arith
past_bounded blocks (suc n) = past_step (is_hole (blocks n)) n (past_last blocks n) (past_bounded blocks n)
