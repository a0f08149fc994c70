-- The slots of a leaf: which numbers they are those of, and what may be told as damaged of one.
use Rattle.std.proofs.Common.{◌≡◌, ◌≢◌, inl, inr, ⊎_elim, ℕ, zero, suc, ◌+◌, ◌*◌, ◌^◌, ◌<◌, ◌≤◌, true, List, refl, sym, ◌∙◌, ap, subst, arith}
use Rattle.std.specs.Prelude.{None}
use Rattle.std.proofs.lemmas.Bool.{cases_lt}
use Rattle.zst_space.specs.FreeSectors.{FreeSectors}
use Rattle.zst_block.specs.Blocks.{Has}
use Rattle.zst_block.specs.IoStates.{IoState}
use Rattle.zst_block.specs.IoCalls.{Looks}
use Rattle.zst_block.specs.declared.ptr.Ptr.{Ptr}
use Rattle.zst_dnode.specs.declared.slot.Slot.{Slot}
use Rattle.zst_dnode.specs.declared.slot.Slot.TheVariants.{Absent, There}
use Rattle.zst_dnode.proofs.Slots.{slot_bytes-unique}
use Rattle.zst_model.specs.states.State.{is_number}
use Rattle.zst_model.specs.states.DatedState.{DatedState}
use Rattle.zst_tree.specs.Damage.{HangsBelow, HangsIn, MayHave}
use Rattle.zst_tree.specs.declared.tree.ObjSet.{ObjSet}
use Rattle.zst_objset.specs.Damage.{HasSlot, IsLoaded, TellsLacking, TellsWithin}
use Rattle.zst_objset.specs.Dnodes.{SlotIs}
use Rattle.zst_objset.specs.Sets.{HasSlots, Spells}
use Rattle.zst_objset.proofs.LeafLaws.{is_number_at, look_on}
use Rattle.zst_compare.specs.Agreement.{AgreeBetween, AgreesAt}
use Rattle.zst_compare.specs.Damage.{HasDamagedDnode, IsDamagedIn, IsDamagedInLeaf, IsDamagedInSlot}
use Rattle.zst_compare.proofs.Told.{slot_there}

-- an object number stands at each place of a leaf from the first on
pub number_in : (leaf place first : ℕ) → leaf < 2 ^ 44 → (leaf ≡ 0 → 0 < first) → first ≤ place → place < 16 → is_number (16 * leaf + place) ≡ true
number_in zero place first less some start under = is_number_at (16 * 0 + place) (omega (arith, some refl, start)) (omega (arith, under))
number_in (suc leaf) place first less some start under = is_number_at (16 * suc leaf + place) (omega arith) (omega (arith, less, under))

-- the slot that is read at a place of a leaf that was loaded is that of its number
pub slot_read : {old new : IoState} → Looks old new None → (snap : DatedState) (leaf place : ℕ) (bytes node : List ℕ) (slot : Slot) → HasSlots (Has old.disk.seen old.space) snap leaf bytes → node ≡ bytes
    → place < 16 → is_number (16 * leaf + place) ≡ true → ((slots : ℕ → Slot) → Spells node slots → slot ≡ slots place) → SlotIs (Has new.disk.seen new.space) snap (16 * leaf + place) slot
slot_read {old} {new} looks snap leaf place bytes node slot held same under number is = look_on (λ (seen : List ℕ) (space : FreeSectors). SlotIs (Has seen space) snap (16 * leaf + place) slot) looks
    (slot_there (Has old.disk.seen old.space) snap leaf place node slot (subst (HasSlots (Has old.disk.seen old.space) snap leaf) (sym same) held) under number is)

module _ (number : ℕ) (was now : DatedState) where
  -- one place of a leaf more agrees
  pub one_more : (leaf place : ℕ) → AgreeBetween number was now (16 * leaf) (16 * leaf + place) → (is_number (16 * leaf + place) ≡ true → AgreesAt number was now (16 * leaf + place))
      → AgreeBetween number was now (16 * leaf) (16 * leaf + (place + 1))
  one_more leaf place before here = λ k is start under. ⊎_elim
      (λ (less : k < 16 * leaf + place). before k is start less)
      (λ (over : 16 * leaf + place ≤ k). let same : 16 * leaf + place ≡ k = omega (arith, over, under) in subst (λ (m : ℕ). is_number m ≡ true → AgreesAt number was now m) same here is)
      (cases_lt k (16 * leaf + place))

  -- one range that agrees, and that behind it
  pub between_then : (from mid below : ℕ) → AgreeBetween number was now from mid → AgreeBetween number was now mid below → AgreeBetween number was now from below
  between_then from mid below first second = λ k is start under. ⊎_elim
      (λ (before : k < mid). first k is start before)
      (λ (behind : mid ≤ k). second k is behind under)
      (cases_lt k mid)

module _ (images : List ℕ → Type 0) (size : ℕ) (leaf : Ptr) (bytes : List ℕ) where
  -- what is told of a leaf whose block lacks a slot
  pub lacking_within : IsLoaded images leaf bytes → TellsWithin (TellsLacking bytes leaf) (IsDamagedInLeaf images size leaf)
  lacking_within (inl (hole, absent)) sector stated found told =
      let other = absent told.lacks.place told.lacks.under in
      absurd (told.lacks.none (Absent other.0) other.1)
  lacking_within (inr (some, there)) sector stated found told = inl (record {
    some = some;
    told = record { sector_is = told.sector_is; stated_is = told.stated_is; found_is = inr (told.found_is, inr (bytes, there, told.lacks)) };
  })

  -- what is told of one of its slots
  pub slot_within : (place : ℕ) (slot : Slot) → IsLoaded images leaf bytes → place < 16 → HasSlot bytes place slot → TellsWithin (IsDamagedInSlot images size slot) (IsDamagedInLeaf images size leaf)
  slot_within place (Absent date) loaded under has sector stated found told = absurd told
  slot_within place (There dnode) (inl (hole, absent)) under has sector stated found told =
      let other = absent place under in
      let same = slot_bytes-unique (There dnode) (Absent other.0) has.fits other.1.fits (sym has.spelled ∙ other.1.spelled) in
      absurd (cc)
  slot_within place (There dnode) (inr (some, there)) under has sector stated found told = inr (record {
    some = some;
    bytes = bytes;
    there = there;
    place = place;
    under = under;
    slot = There dnode;
    stands = has;
    damaged = told;
  })

module _ (images : List ℕ → Type 0) (size : ℕ) (set : ObjSet) where
  dnode_within : (leaf : Ptr) (bytes : List ℕ) (place : ℕ) (slot : Slot) (sector : ℕ) (stated found : List ℕ) → HangsBelow (MayHave images) set.tree.levels set.tree.root leaf → leaf.kind ≢ 0 → MayHave images leaf bytes
      → place < 16 → HasSlot bytes place slot → IsDamagedInSlot images size slot sector stated found → HasDamagedDnode images size set sector stated found
  dnode_within leaf bytes place (Absent date) sector stated found hangs some there under has told = absurd told
  dnode_within leaf bytes place (There dnode) sector stated found hangs some there under has told = record {
    dnode = dnode;
    stands = record { leaf = leaf; some = some; hangs = hangs; bytes = bytes; there = there; place = place; under = under; slot = has };
    damaged = told;
  }

  -- what is told of a leaf that hangs in the tree of a set
  pub leaf_within : (leaf : Ptr) → HangsIn (MayHave images) set.tree leaf → TellsWithin (IsDamagedInLeaf images size leaf) (IsDamagedIn images size set)
  leaf_within leaf (inl hangs) sector stated found (inl own) = inl (inr (inr (record { leaf = leaf; hangs = hangs; damaged = own })))
  leaf_within leaf (inl hangs) sector stated found (inr has) = inr (dnode_within leaf has.bytes has.place has.slot sector stated found hangs has.some has.there has.under has.stands has.damaged)
  leaf_within leaf (inr past) sector stated found (inl own) = absurd (own.some (ap (λ (p : Ptr). p.kind) past))
  leaf_within leaf (inr past) sector stated found (inr has) = absurd (has.some (ap (λ (p : Ptr). p.kind) past))
