-- Sizes of blocks.
use Rattle.std.proofs.Common.{◌≡◌, ◌≢◌, Bool, ◌||◌, ℕ, ◌*◌, ◌^◌, ◌<◌, ◌≤◌, ◌%◌, ◌==◌, ◌&&◌, true, nat_le, arith, mul-le-mul_right, subst}
use Rattle.std.proofs.lemmas.Bool.{and_parts, eqb-true, leb-true, ne_eqb}
use Rattle.zst_block.specs.declared.ptr.Ptr.{Ptr}
use Rattle.zst_dnode.specs.Dnode.{DnodeFits, is_spill}
use Rattle.zst_dnode.specs.declared.dnode.Dnode.{Dnode}
use Rattle.zst_model.specs.states.State.{BlockFits, Data, IsObject, IsObjectOrNone, IsSpill, IsState, Object, index_bound, is_block_size, is_spill_size, largest_block}
use Rattle.std.specs.Prelude.{IsTrue, List, length, Option, Some, None, IfSome}
use Rattle.zst_model.proofs.Sizes.{block_size_over_none, spill_is_block}
use Rattle.zst_model.specs.states.DatedState.{DatedState}
use Rattle.zst_send.specs.WalkPositions.{PositionFits}
use Rattle.zst_send.specs.declared.walk_position.WalkPosition.{WalkPosition}

-- a block size is at most that of the largest block
pub size_most : (size : ℕ) → is_block_size size ≡ true → size ≤ 131072
unfolding is_block_size largest_block
size_most size e =
    let range = (and_parts (nat_le 512 size && nat_le size 131072) (size % 512 == 0) e).0 in
    leb-true size 131072 (and_parts (nat_le 512 size) (nat_le size 131072) range).1

-- the size of an object's blocks is one that a position may have
pub size_fits : (position : WalkPosition) (dnode : Dnode) → DnodeFits dnode → position.block_size ≡ dnode.block_size → PositionFits position
size_fits position dnode fits same = record {
  some = let over : 0 < dnode.block_size = block_size_over_none dnode.block_size fits.head.size in omega (arith, over, same);
  most = let most : dnode.block_size ≤ 131072 = size_most dnode.block_size fits.head.size in omega (arith, most, same);
}

-- the place of an object's end is below 2^60
pub tail_most : (dnode : Dnode) → DnodeFits dnode → dnode.end * dnode.block_size ≤ 2 ^ 60
unfolding index_bound
tail_most dnode fits =
    let end : dnode.end ≤ 2 ^ 43 = fits.end in
    let most : dnode.block_size ≤ 131072 = size_most dnode.block_size fits.head.size in
    let times : dnode.end * dnode.block_size ≤ 2 ^ 43 * dnode.block_size = mul-le-mul_right dnode.block_size end in
    omega (arith, times, most)

-- what stands at a number of a lawful state is lawful
pub object_lawful : (snap : DatedState) (k : ℕ) (object : Object) → IsState snap.state → snap.state k ≡ Some object → IsObject object
object_lawful snap k object lawful there = subst IsObjectOrNone there (lawful.objects k)

-- the bytes of a block of a lawful object, and of its spill block, are no more than the most
pub data_most : (object : Object) (i : ℕ) (bytes : List ℕ) → IsObject object → object.blocks i ≡ Data bytes → length bytes ≤ 131072
data_most object i bytes lawful is =
    let long : length bytes ≡ object.attr.block_size = (subst (BlockFits object.attr.block_size) is (lawful.fits i)).0 in
    let most : object.attr.block_size ≤ 131072 = size_most object.attr.block_size lawful.attr.head.size in
    omega (arith, long, most)

spills_most : (spill : Option (List ℕ)) → IfSome spill IsSpill → IfSome spill (λ bytes. length bytes ≤ 131072)
spills_most None is = tt
spills_most (Some bytes) is = size_most (length bytes) (spill_is_block (length bytes) is.0)

pub spill_most : (object : Object) → IsObject object → IfSome object.attr.spill (λ bytes. length bytes ≤ 131072)
spill_most object lawful = spills_most object.attr.spill lawful.attr.spill

pub spill_size_most : (size : ℕ) → is_spill_size size ≡ true → size ≤ 131072
spill_size_most size is = size_most size (spill_is_block size is)

-- a spill pointer that is no hole names data of a spill size
pub spill_named : (spill : Ptr) → IsTrue (is_spill spill) → spill.kind ≢ 0 → (spill.kind ≡ 1) × (is_spill_size spill.length ≡ true)
spill_named spill is some =
    let named = and_parts (spill.kind == 1) (is_spill_size spill.length) (subst (λ (hole : Bool). (hole || (spill.kind == 1 && is_spill_size spill.length)) ≡ true) (ne_eqb spill.kind 0 some) is) in
    (eqb-true spill.kind 1 named.0, named.1)
