-- What sizes and lawful objects give.
use Rattle.std.proofs.Common.{◌≡◌, ℕ, ◌%◌, ◌^◌, ◌<◌, true, ◌&&◌, arith, ◌==◌, nat_le}
use Rattle.std.proofs.lemmas.Bool.{and_parts, leb-true}
use Rattle.zst_model.specs.states.State.{Object, IsObject, largest_block, is_block_size, is_spill_size}

-- a block size is over 0
pub block_size_over_none : (size : ℕ) → is_block_size size ≡ true → 0 < size
unfolding is_block_size
block_size_over_none size h =
    let range = (and_parts (nat_le 512 size && nat_le size largest_block) (size % 512 == 0) h).0 in
    let least = leb-true 512 size (and_parts (nat_le 512 size) (nat_le size largest_block) range).0 in
    omega (arith, least)

-- a lawful object has blocks of some bytes
pub size_of_lawful : (object : Object) → IsObject object → 0 < object.attr.block_size
size_of_lawful object is = block_size_over_none object.attr.block_size is.attr.head.size

-- a spill size is a block size
pub spill_is_block : (size : ℕ) → is_spill_size size ≡ true → is_block_size size ≡ true
unfolding is_block_size is_spill_size largest_block
spill_is_block size h = h

-- and it fits into four bytes
pub block_size_small : (size : ℕ) → is_block_size size ≡ true → size < 256 ^ 4
unfolding is_block_size largest_block
block_size_small size is =
    let both = (and_parts (nat_le 512 size && nat_le size 131072) ((size % 512) == 0) is).0 in
    let below = leb-true _ _ (and_parts (nat_le 512 size) (nat_le size 131072) both).1 in omega arith
