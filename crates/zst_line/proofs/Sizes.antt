-- Sizes fit a word of the machine.
use Rattle.std.proofs.Common.{◌≡◌, ℕ, ◌^◌, ◌<◌, true, arith}
use Rattle.std.proofs.lemmas.Bool.Decides.{nat_tests}
use Rattle.zst_model.specs.states.State.{is_block_size, is_spill_size, largest_block}

pub block_size_below : (size : ℕ) → is_block_size size ≡ true → size < 2 ^ 32
unfolding is_block_size largest_block
block_size_below size h = grind (arith, nat_tests)

pub spill_size_below : (size : ℕ) → is_spill_size size ≡ true → size < 2 ^ 32
unfolding is_spill_size
spill_size_below size h = grind (arith, nat_tests)
