-- Leaves, as they are read and written.
use Rattle.std.specs.Prelude.{Option, Some, None}
use Rattle.std.proofs.Common.{◌≡◌, ◌⊎◌, inl, inr, ℕ, zero, suc, ◌+◌, ◌*◌, ◌/◌, ◌%◌, ◌^◌, ◌<◌, ◌≤◌, true, false, List, length, refl, sym, ◌∙◌, ap, subst, arith}
use Rattle.std.proofs.lemmas.Bool.{false≢true}
use Rattle.std.proofs.lemmas.Bool.Decides.{nat_tests}
use Rattle.zst_bytes.specs.Bytes.{bytes_at}
use Rattle.zst_outside.specs.Images.{DiskState}
use Rattle.zst_space.specs.FreeSectors.{FreeSectors}
use Rattle.zst_block.specs.Blocks.{FillsFree, Has, KeepsBlocks}
use Rattle.zst_block.specs.IoStates.{IoState}
use Rattle.zst_block.specs.IoCalls.{Looks}
use Rattle.zst_block.proofs.BlocksLaws.{KeepsBlocks-fills}
use Rattle.zst_block.specs.declared.fault.BlockFault.{BlockFault}
use Rattle.zst_block.specs.declared.ptr.Ptr.{Ptr}
use Rattle.zst_dnode.specs.Slot.{slot_bytes, SlotFits}
use Rattle.zst_dnode.specs.declared.slot.Slot.{Slot}
use Rattle.zst_dnode.specs.declared.slot.Slot.TheVariants.{Absent, There}
use Rattle.zst_model.specs.states.State.{is_number, number_bound}
use Rattle.zst_model.specs.states.DatedState.{DatedState}
use Rattle.zst_tree.specs.Indices.{Blocks}
use Rattle.zst_dnode.specs.declared.dnode.Dnode.{Dnode}
use Rattle.zst_objset.specs.Dnodes.{DnodeIs, IsThere, SlotIn, SlotIs}
use Rattle.zst_objset.specs.Sets.{any_there, HasSlots, HasSlotsIn, IsHole, IsLeaf, IsLeafIn, LeafIn, LeafIs, Spells}
use Rattle.zst_objset.proofs.OneState.{hole_kind}

-- what is so over what a read gives and what is free is so after a call that only reads, and was so before it
module _ {old new : IoState} {stop : Option BlockFault} (P : List ℕ → FreeSectors → Type 0) (looks : Looks old new stop) where
  pub look_on : P old.disk.seen old.space → P new.disk.seen new.space
  look_on is = subst (λ (s : FreeSectors). P new.disk.seen s) (sym looks.space) (subst (λ (bytes : List ℕ). P bytes old.space) (sym looks.reads.seen) is)

  pub look_back : P new.disk.seen new.space → P old.disk.seen old.space
  look_back is = subst (λ (s : FreeSectors). P old.disk.seen s) looks.space (subst (λ (bytes : List ℕ). P bytes new.space) looks.reads.seen is)

-- a call that reads, and then one that writes into free sectors, leave the blocks that were there
pub keeps_on : {old mid : IoState} {new : DiskState} {less : FreeSectors} {stop : Option BlockFault} → Looks old mid stop → FillsFree mid.disk mid.space new less → KeepsBlocks old.disk.seen old.space new.seen less
keeps_on {old} {mid} {new} {less} looks fills ptr bytes has =
    KeepsBlocks-fills mid.disk new mid.space less fills ptr bytes (look_on (λ (seen : List ℕ) (space : FreeSectors). Has seen space ptr bytes) looks has)

-- a pointer that isn't a hole is that of a leaf
pub leaf_of : (has : Blocks) (snap : DatedState) (j : ℕ) (ptr : Ptr) → LeafIs has snap j ptr → (ptr.kind ≡ 0 → ⊥) → IsLeaf has snap j ptr
leaf_of has snap j ptr (inl hole) isnt = absurd (isnt hole.kind)
leaf_of has snap j ptr (inr leaf) isnt = leaf

pub hole_in : (has : Blocks) (reads : ℕ → ℕ → Blocks) (snap : DatedState) (j : ℕ) (ptr : Ptr) → LeafIn has reads snap j ptr → ptr.kind ≡ 0 → IsHole snap j ptr
hole_in has reads snap j ptr (inl hole) is = hole
hole_in has reads snap j ptr (inr leaf) is = absurd (hole_kind ptr.kind (any_there leaf.slots 16) is leaf.names.kind)

pub hole_of_leaf : (has : Blocks) (snap : DatedState) (j : ℕ) (ptr : Ptr) → LeafIs has snap j ptr → ptr.kind ≡ 0 → IsHole snap j ptr
hole_of_leaf has snap j ptr is kind = hole_in has (λ k i. has) snap j ptr is kind

pub leaf_in : (has : Blocks) (reads : ℕ → ℕ → Blocks) (snap : DatedState) (j : ℕ) (ptr : Ptr) → LeafIn has reads snap j ptr → (ptr.kind ≡ 0 → ⊥) → IsLeafIn has reads snap j ptr
leaf_in has reads snap j ptr (inl hole) isnt = absurd (isnt hole.kind)
leaf_in has reads snap j ptr (inr leaf) isnt = leaf

pub slots_loaded : (has : Blocks) (reads : ℕ → ℕ → Blocks) (snap : DatedState) (j : ℕ) (ptr : Ptr) (leaf : IsLeafIn has reads snap j ptr) (bytes : List ℕ) → bytes ≡ leaf.bytes → HasSlotsIn has reads snap j bytes
slots_loaded has reads snap j ptr leaf bytes same = record { slots = leaf.slots; spells = subst (λ (b : List ℕ). Spells b leaf.slots) (sym same) leaf.names.spells; slots_are = leaf.slots_are }

-- the slots of a leaf that is loaded
pub HasSlots-loaded : (has : Blocks) (snap : DatedState) (j : ℕ) (ptr : Ptr) (leaf : IsLeaf has snap j ptr) (bytes : List ℕ) → bytes ≡ leaf.bytes → HasSlots has snap j bytes
HasSlots-loaded has snap j ptr leaf bytes same = record { slots = leaf.slots; spells = subst (λ (b : List ℕ). Spells b leaf.slots) (sym same) leaf.names.spells; slots_are = leaf.slots_are }

number_there : (j s : ℕ) → 0 < j → j < 2 ^ 44 → s < 16 → is_number (16 * j + s) ≡ false → ⊥
unfolding number_bound
number_there j s some less small test = grind (arith, nat_tests)

-- sixteen absent slots, where none of the numbers is 0
pub slots_absent : (has : Blocks) (reads : ℕ → ℕ → Blocks) (snap : DatedState) (j : ℕ) (ptr : Ptr) (bytes : List ℕ) → 0 < j → j < 2 ^ 44 → ptr.number < 2 ^ 64 → ptr.kind ≡ 0 → length bytes ≡ 8192
    → ((s : ℕ) → 0 ≤ s → s < 16 → bytes_at bytes (512 * s) 512 ≡ slot_bytes (Absent ptr.number)) → LeafIn has reads snap j ptr → HasSlotsIn has reads snap j bytes
slots_absent has reads snap j ptr bytes some less fits kind long put is = record {
  slots = λ s. Absent ptr.number;
  spells = record { long = long; fits = λ s small. fits; spelled = λ s small. put s (omega arith) small };
  slots_are = record { numbers = λ s small number. (hole_in has reads snap j ptr is kind).absent s small number; no_number = λ s small test. absurd (number_there j s some less small test) };
}

pub HasSlots-absent : (has : Blocks) (snap : DatedState) (j : ℕ) (ptr : Ptr) (bytes : List ℕ) → 0 < j → j < 2 ^ 44 → ptr.number < 2 ^ 64 → ptr.kind ≡ 0 → length bytes ≡ 8192
    → ((s : ℕ) → 0 ≤ s → s < 16 → bytes_at bytes (512 * s) 512 ≡ slot_bytes (Absent ptr.number)) → LeafIs has snap j ptr → HasSlots has snap j bytes
HasSlots-absent has snap j ptr bytes some less fits kind long put is = slots_absent has (λ k i. has) snap j ptr bytes some less fits kind long put is

-- the slots of the first leaf
abbrev pub first_slots : ℕ → ℕ → Slot
first_slots date zero = Absent 0
first_slots date (suc s) = Absent date

module _ (has : Blocks) (reads : ℕ → ℕ → Blocks) (snap : DatedState) (ptr : Ptr) (bytes mid : List ℕ) (fits : ptr.number < 2 ^ 64) where
  fits_in : (s : ℕ) → SlotFits (first_slots ptr.number s)
  fits_in zero = omega arith
  fits_in (suc s) = fits

  pub slots_first : ptr.kind ≡ 0 → length bytes ≡ 8192
      → ((s : ℕ) → 0 ≤ s → s < 16 → bytes_at mid (512 * s) 512 ≡ slot_bytes (Absent ptr.number))
      → ((s : ℕ) → 0 ≤ s → s < 1 → bytes_at bytes (512 * s) 512 ≡ slot_bytes (Absent 0))
      → ((s : ℕ) → s < 16 → (s < 0) ⊎ (1 ≤ s) → bytes_at bytes (512 * s) 512 ≡ bytes_at mid (512 * s) 512)
      → LeafIn has reads snap 0 ptr → HasSlotsIn has reads snap 0 bytes
  unfolding number_bound
  slots_first kind long put here kept is = record {
    slots = first_slots ptr.number;
    spells = record { long = long; fits = λ s small. fits_in s; spelled = spelled };
    slots_are = record { numbers = numbers; no_number = no_number };
  }
    where
      spelled : (s : ℕ) → s < 16 → bytes_at bytes (512 * s) 512 ≡ slot_bytes (first_slots ptr.number s)
      spelled zero small = here 0 (omega arith) (omega arith)
      spelled (suc s) small = kept (suc s) small (inr (omega arith)) ∙ put (suc s) (omega arith) small

      numbers : (s : ℕ) → s < 16 → is_number (16 * 0 + s) ≡ true → SlotIn has reads snap (16 * 0 + s) (first_slots ptr.number s)
      numbers zero small number = absurd (false≢true number)
      numbers (suc s) small number = (hole_in has reads snap 0 ptr is kind).absent (suc s) small number

      no_number : (s : ℕ) → s < 16 → is_number (16 * 0 + s) ≡ false → first_slots ptr.number s ≡ Absent 0
      no_number zero small test = refl
      no_number (suc s) small test = absurd (grind (arith, nat_tests))

module _ (has : Blocks) (snap : DatedState) (ptr : Ptr) (bytes mid : List ℕ) (fits : ptr.number < 2 ^ 64) where
  pub HasSlots-first : ptr.kind ≡ 0 → length bytes ≡ 8192
      → ((s : ℕ) → 0 ≤ s → s < 16 → bytes_at mid (512 * s) 512 ≡ slot_bytes (Absent ptr.number))
      → ((s : ℕ) → 0 ≤ s → s < 1 → bytes_at bytes (512 * s) 512 ≡ slot_bytes (Absent 0))
      → ((s : ℕ) → s < 16 → (s < 0) ⊎ (1 ≤ s) → bytes_at bytes (512 * s) 512 ≡ bytes_at mid (512 * s) 512)
      → LeafIs has snap 0 ptr → HasSlots has snap 0 bytes
  HasSlots-first kind long put here kept is = slots_first has (λ k i. has) snap ptr bytes mid fits kind long put here kept is

pub is_number_at : (k : ℕ) → 0 < k → k < 2 ^ 48 → is_number k ≡ true
unfolding number_bound
is_number_at k some less = grind (arith, nat_tests)

-- the slot of a number, in the leaf of its index
pub slot_found : (has : Blocks) (snap : DatedState) (k : ℕ) (bytes read : List ℕ) (slot : Slot) → 0 < k → k < 2 ^ 48 → HasSlots has snap (k / 16) bytes → read ≡ bytes
    → ((other : Slot) → SlotFits other → bytes_at read (512 * (k % 16)) 512 ≡ slot_bytes other → Some slot ≡ Some other) → SlotIs has snap k slot
slot_found has snap k bytes read slot some less slots same back =
    let split : 16 * (k / 16) + k % 16 ≡ k = omega arith in
    let small : k % 16 < 16 = omega arith in
    let found = back (slots.slots (k % 16)) (slots.spells.fits (k % 16) small) (ap (λ (b : List ℕ). bytes_at b (512 * (k % 16)) 512) same ∙ slots.spells.spelled (k % 16) small) in
    let slot_is : slots.slots (k % 16) ≡ slot = cc in
    subst (λ (n : ℕ). SlotIs has snap n slot) split
    (subst (SlotIs has snap (16 * (k / 16) + k % 16)) slot_is
    (slots.slots_are.numbers (k % 16) small (subst (λ (n : ℕ). is_number n ≡ true) (sym split) (is_number_at k some less))))

-- some slot is read
pub slot_there : (has : Blocks) (snap : DatedState) (k : ℕ) (bytes read : List ℕ) → HasSlots has snap (k / 16) bytes → read ≡ bytes
    → ((other : Slot) → SlotFits other → bytes_at read (512 * (k % 16)) 512 ≡ slot_bytes other → ⊥) → ⊥
slot_there has snap k bytes read slots same isnt =
    let small : k % 16 < 16 = omega arith in
    isnt (slots.slots (k % 16)) (slots.spells.fits (k % 16) small) (ap (λ (b : List ℕ). bytes_at b (512 * (k % 16)) 512) same ∙ slots.spells.spelled (k % 16) small)

-- what is found at a number
pub none_found : (has : Blocks) (snap : DatedState) (k : ℕ) → snap.state k ≡ None → DnodeIs has snap k None
none_found has snap k none = rw none tt

pub dnode_found : (has : Blocks) (snap : DatedState) (k : ℕ) (dnode : Dnode) → IsThere has snap k dnode → DnodeIs has snap k (Some dnode)
dnode_found has snap k dnode is = rw is.there (is.map, is.is)

pub absent_found : (has : Blocks) (snap : DatedState) (k date : ℕ) (slot : Slot) → slot ≡ Absent date → SlotIs has snap k slot → DnodeIs has snap k None
absent_found has snap k date slot is found = none_found has snap k (subst (SlotIs has snap k) is found).none

pub there_found : (has : Blocks) (snap : DatedState) (k : ℕ) (dnode : Dnode) (slot : Slot) → slot ≡ There dnode → SlotIs has snap k slot → DnodeIs has snap k (Some dnode)
there_found has snap k dnode slot is found = dnode_found has snap k dnode (subst (SlotIs has snap k) is found)

pub same_calls : (now : ℕ) → now ≤ now + 1
same_calls now = omega arith
