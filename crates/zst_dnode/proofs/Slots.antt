-- A slot is read back from its bytes.
use Rattle.std.proofs.Common.{◌≡◌, ℕ, ◌+◌, ◌^◌, ◌-◌, ◌<◌, true, List, length, take, drop, refl, subst, sym, ◌∙◌, ap, arith}
use Rattle.std.proofs.lemmas.Bool.{ne_eqb}
use Rattle.zst_bytes.specs.Bytes.{bytes_at, number_at, number_bytes}
use Rattle.zst_bytes.specs.Fields.{found, is_clear, zeros, Fills}
use Rattle.zst_bytes.proofs.FieldsLaws.{number-back, text-back, length-laid}
use Rattle.zst_block.specs.Ptr.{ptr_bytes}
use Rattle.zst_block.proofs.PtrLaws.{length-ptr_bytes, ptr_at-range}
use Rattle.zst_model.specs.states.State.{index_bound}
use Rattle.zst_model.proofs.Sizes.{block_size_small}
use Rattle.zst_dnode.specs.Dnode.{dnode_fields, dnode_at, DnodeFits}
use Rattle.zst_dnode.specs.Slot.{slot_at, slot_bytes, slot_fields, SlotFits}
use Rattle.zst_dnode.specs.declared.dnode.Dnode.{Dnode}
use Rattle.zst_dnode.specs.declared.slot.Slot.{Slot}
use Rattle.zst_dnode.specs.declared.slot.Slot.TheVariants.{Absent, There}

fills : (dnode : Dnode) → DnodeFits dnode → Fills (dnode_fields dnode)
fills dnode fits = (length-ptr_bytes dnode.root, (length-ptr_bytes dnode.spill, (fits.bonus.size, tt)))

-- the bytes of a slot are 512
pub length-slot_bytes : (slot : Slot) → SlotFits slot → length (slot_bytes slot) ≡ 512
unfolding slot_bytes
length-slot_bytes (Absent date) fits = length-laid 512 (slot_fields (Absent date)) refl tt
length-slot_bytes (There dnode) fits = length-laid 512 (dnode_fields dnode) refl (fills dnode fits)

-- a number of a dnode
field : (dnode : Dnode) (p w value : ℕ) → DnodeFits dnode → is_clear p w (dnode_fields dnode) ≡ true → found p w (dnode_fields dnode) (bytes_at (zeros 512) p w) ≡ number_bytes w value → value < 256 ^ w
    → number_at (slot_bytes (There dnode)) p w ≡ value
unfolding slot_bytes
field dnode p w value fits clear is small = number-back 512 (dnode_fields dnode) p w value refl (fills dnode fits) clear is small

-- a pointer or the bonus of a dnode
range : (dnode : Dnode) (p w : ℕ) (bytes : List ℕ) → DnodeFits dnode → is_clear p w (dnode_fields dnode) ≡ true → found p w (dnode_fields dnode) (bytes_at (zeros 512) p w) ≡ bytes → bytes_at (slot_bytes (There dnode)) p w ≡ bytes
unfolding slot_bytes
range dnode p w bytes fits clear is = text-back 512 (dnode_fields dnode) p w bytes refl (fills dnode fits) clear is

end_small : (dnode : Dnode) → DnodeFits dnode → dnode.end < 256 ^ 8
unfolding index_bound
end_small dnode fits = let below = fits.end in omega arith

dnode-back : (dnode : Dnode) → DnodeFits dnode → dnode_at (slot_bytes (There dnode)) ≡ dnode
dnode-back dnode fits =
    let bytes = slot_bytes (There dnode) in
    let long = length-slot_bytes (There dnode) fits in
    rw (
      field dnode 0 4 dnode.type_ fits refl refl (omega (arith, fits.head.type_fits)),
      field dnode 4 4 dnode.bonus_type fits refl refl (omega (arith, fits.head.bonus_type_fits)),
      field dnode 8 4 dnode.block_size fits refl refl (block_size_small dnode.block_size fits.head.size),
      field dnode 12 4 dnode.bonus_len fits refl refl (omega (arith, fits.bonus.inside)),
      field dnode 16 8 dnode.date fits refl refl (omega (arith, fits.date)),
      field dnode 24 1 dnode.levels fits refl refl (omega (arith, fits.levels)),
      field dnode 32 8 dnode.past fits refl refl (omega (arith, fits.past)),
      field dnode 40 8 dnode.end fits refl refl (end_small dnode fits),
      ptr_at-range bytes 48 dnode.root (omega (arith, long)) fits.root_fits (range dnode 48 64 (ptr_bytes dnode.root) fits refl refl),
      ptr_at-range bytes 112 dnode.spill (omega (arith, long)) fits.spill_fits (range dnode 112 64 (ptr_bytes dnode.spill) fits refl refl),
      range dnode 192 320 dnode.bonus fits refl refl,
    ) refl

type_absent : (date : ℕ) → number_at (slot_bytes (Absent date)) 0 4 ≡ 0
unfolding slot_bytes bytes_at number_bytes zeros
type_absent date = number-back 512 (slot_fields (Absent date)) 0 4 0 refl tt refl refl (omega arith)

date_absent : (date : ℕ) → date < 2 ^ 64 → number_at (slot_bytes (Absent date)) 16 8 ≡ date
unfolding slot_bytes
date_absent date small = number-back 512 (slot_fields (Absent date)) 16 8 date refl tt refl refl (omega (arith, small))

type_there : (dnode : Dnode) → DnodeFits dnode → (number_at (slot_bytes (There dnode)) 0 4 ≡ 0 → ⊥)
type_there dnode fits = λ none. omega (arith, none, field dnode 0 4 dnode.type_ fits refl refl (omega (arith, fits.head.type_fits)), fits.head.some_type)

-- what the bytes of a slot say is that slot
pub slot_at-slot_bytes : (slot : Slot) → SlotFits slot → slot_at (slot_bytes slot) ≡ slot
slot_at-slot_bytes (Absent date) fits = rw (type_absent date, date_absent date fits) refl
slot_at-slot_bytes (There dnode) fits = rw (ne_eqb _ _ (type_there dnode fits)) (ap There (dnode-back dnode fits))

-- slots with equal bytes are equal
pub slot_bytes-unique : (one other : Slot) → SlotFits one → SlotFits other → slot_bytes one ≡ slot_bytes other → one ≡ other
slot_bytes-unique one other one_fits other_fits same = sym (slot_at-slot_bytes one one_fits) ∙ ap slot_at same ∙ slot_at-slot_bytes other other_fits

-- the 512 bytes from a place on
pub slice_is : (bytes : List ℕ) (at : ℕ) → take (at + 512 - at) (drop at bytes) ≡ bytes_at bytes at 512
unfolding bytes_at
slice_is bytes at =
    let count : at + 512 - at ≡ 512 = omega arith in
    ap (λ (n : ℕ). take n (drop at bytes)) count

-- what was read of a slot's bytes is that slot
pub read_is : (bytes : List ℕ) (read slot : Slot) → read ≡ slot_at bytes → SlotFits slot → bytes ≡ slot_bytes slot → read ≡ slot
read_is bytes read slot is fits spelled = is ∙ ap slot_at spelled ∙ slot_at-slot_bytes slot fits

-- what was read and isn't spelled so shows that no slot is
pub none_is : (bytes : List ℕ) (read slot : Slot) → read ≡ slot_at bytes → ((SlotFits read × (bytes ≡ slot_bytes read)) → ⊥) → SlotFits slot → bytes ≡ slot_bytes slot → ⊥
none_is bytes read slot is isnt fits spelled =
    isnt (subst (λ (s : Slot). SlotFits s × (bytes ≡ slot_bytes s)) (sym (read_is bytes read slot is fits spelled)) (fits, spelled))
