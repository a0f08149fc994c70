-- The heads of the tests are those of records.
use Rattle.std.proofs.Common.{◌≡◌, ◌⊎◌, inl, inr, ℕ, ◌+◌, ◌^◌, ◌-◌, ◌<◌, ◌==◌, ◌||◌, Bool, true, false, refl, arith}
use Rattle.std.proofs.lemmas.Bool.Decides.{nat_tests}
use Rattle.zst_model.specs.states.State.{is_block_size, largest_block, number_bound}
use Rattle.zst_record.specs.Decoding.{is_object, is_range}
use Rattle.zst_record.specs.Formats.{to_end}

pub stated : (k : ℕ) → 0 < k → k < 2 ^ 48 → is_object k ≡ true
unfolding is_object number_bound
stated k some less = grind (arith, nat_tests)

pub size_fits : (size : ℕ) → (size ≡ 512) ⊎ (size ≡ 1536) → is_block_size size ≡ true
unfolding is_block_size largest_block
size_fits size (inl is) = rw is refl
size_fits size (inr is) = rw is refl

pub in_range : (offset count : ℕ) → offset + count < 2 ^ 64 → is_range offset count ≡ true
unfolding is_range
in_range offset count less = grind (arith, nat_tests)

pub free_range : (offset count : ℕ) → (offset + count < 2 ^ 64) ⊎ (count ≡ 2 ^ 64 - 1) → (is_range offset count || (count == to_end)) ≡ true
free_range offset count (inl less) = rw (in_range offset count less) refl
free_range offset count (inr is) = rw is (or_true (is_range offset (2 ^ 64 - 1)))
  where
    or_true : (b : Bool) → (b || true) ≡ true
    or_true true = refl
    or_true false = refl
