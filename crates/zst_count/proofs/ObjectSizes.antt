-- How long the blocks of an object are at most.
use Rattle.std.proofs.Common.{◌≡◌, inl, inr, ℕ, ◌≤◌, ◌%◌, ◌==◌, ◌&&◌, true, nat_le, arith}
use Rattle.std.proofs.lemmas.Bool.{and_parts, cases_eq, eqb-true, leb-true, ne_eqb}
use Rattle.zst_block.specs.Ptr.{is_lawful}
use Rattle.zst_block.specs.declared.ptr.Ptr.{Ptr}
use Rattle.zst_dnode.specs.Dnode.{DnodeFits, is_spill}
use Rattle.zst_dnode.specs.declared.dnode.Dnode.{Dnode}
use Rattle.zst_model.specs.states.State.{is_block_size, largest_block}
use Rattle.zst_model.proofs.Sizes.{spill_is_block}

block_bound : (size : ℕ) → is_block_size size ≡ true → size ≤ 131072
unfolding is_block_size largest_block
block_bound size is =
    let both = (and_parts (nat_le 512 size && nat_le size 131072) ((size % 512) == 0) is).0 in
    leb-true _ _ (and_parts (nat_le 512 size) (nat_le size 131072) both).1

-- its data
pub size_bound : (dnode : Dnode) → DnodeFits dnode → dnode.block_size ≤ 131072
size_bound dnode fits = block_bound dnode.block_size fits.head.size

-- a hole has no length
hole_length : (ptr : Ptr) → ptr.kind ≡ 0 → is_lawful ptr ≡ true → ptr.length ≡ 0
hole_length ptr hole lawful =
    let parts = rw hole at lawful in
    eqb-true _ _ (and_parts _ _ (and_parts _ _ parts).0).0

length_bound : (ptr : Ptr) → is_lawful ptr ≡ true → is_spill ptr ≡ true → ptr.length ≤ 131072
length_bound ptr lawful spill = elim (cases_eq ptr.kind 0) [
  | inl hole ↦ omega (arith, hole_length ptr hole lawful)
  | inr some ↦ (let rest = rw (ne_eqb ptr.kind 0 some) at spill in block_bound ptr.length (spill_is_block ptr.length (and_parts _ _ rest).1))
]

-- and its spill
pub spill_bound : (dnode : Dnode) → DnodeFits dnode → dnode.spill.length ≤ 131072
spill_bound dnode fits = length_bound dnode.spill fits.spill_lawful fits.spill
