-- What is told as damaged of the one or of the other, from the lower part up; and the slots of a leaf.
use Rattle.std.proofs.Common.{◌≡◌, inl, inr, ⊎_elim, ℕ, ◌+◌, ◌-◌, ◌*◌, ◌<◌, List, true, false, refl, sym, subst}
use Rattle.std.specs.Prelude.{Option, Result, Ok, Err}
use Rattle.zst_block.specs.Blocks.{IsBlock}
use Rattle.zst_block.specs.IoCalls.{Looks}
use Rattle.zst_block.specs.IoStates.{IoState}
use Rattle.zst_block.specs.Ptr.{is_flat}
use Rattle.zst_block.specs.declared.fault.BlockFault.{BlockFault}
use Rattle.zst_block.specs.declared.fault.BlockFault.TheVariants.{Full, Damaged, DiskFault}
use Rattle.zst_block.specs.declared.ptr.Ptr.{Ptr}
use Rattle.zst_dnode.specs.declared.slot.Slot.{Slot}
use Rattle.zst_model.specs.states.DatedState.{DatedState}
use Rattle.zst_model.specs.states.State.{is_number}
use Rattle.zst_objset.specs.Damage.{DamageFact, IfDamage, IfDamaged, TellsWithin}
use Rattle.zst_objset.specs.Dnodes.{SlotIs}
use Rattle.zst_objset.specs.Sets.{HasSlots, Spells}
use Rattle.zst_tree.proofs.Damage.{IsBelow-child, seen_before}
use Rattle.zst_tree.specs.Damage.{IsBelow, IsDamagedNode, IsSeen, NamesDamage, NamesNode}
use Rattle.zst_tree.specs.Indices.{Blocks, child}
use Rattle.zst_compare.specs.Damage.{OfEither}

told_up : (fewer more : DamageFact) (fault : BlockFault) → TellsWithin fewer more → IfDamage fault fewer → IfDamage fault more
told_up fewer more (Full need largest) up told = tt
told_up fewer more (Damaged sector stated found) up told = up sector stated found told
told_up fewer more DiskFault up told = tt

pub damaged_up : {T : Type 0} → (fewer more : DamageFact) (result : Result T BlockFault) → TellsWithin fewer more → IfDamaged result fewer → IfDamaged result more
damaged_up fewer more (Ok value) up told = tt
damaged_up fewer more (Err fault) up told = told_up fewer more fault up told

-- both parts, each up its own way
pub either_up : (one other more further : DamageFact) → TellsWithin one more → TellsWithin other further → TellsWithin (OfEither one other) (OfEither more further)
either_up one other more further up over = λ sector stated found told. ⊎_elim (λ first. inl (up sector stated found first)) (λ second. inr (over sector stated found second)) told

-- what is told below the one or the other of two pointers, after calls that only read, is told below what stands above them
module _ {old new : IoState} {stop : Option BlockFault} (looks : Looks old new stop) where
  pub both_below : {T : Type 0} → (level lower height under : ℕ) (later mine earlier theirs : Ptr)
      → IsBelow (IsSeen old.disk.seen) old.disk.size NamesNode level later (IsSeen old.disk.seen) lower mine
      → IsBelow (IsSeen old.disk.seen) old.disk.size NamesNode height earlier (IsSeen old.disk.seen) under theirs
      → (result : Result T BlockFault)
      → IfDamaged result (OfEither (IsDamagedNode (IsSeen new.disk.seen) new.disk.size NamesNode lower mine) (IsDamagedNode (IsSeen new.disk.seen) new.disk.size NamesNode under theirs))
      → IfDamaged result (OfEither (IsDamagedNode (IsSeen old.disk.seen) old.disk.size NamesNode level later) (IsDamagedNode (IsSeen old.disk.seen) old.disk.size NamesNode height earlier))
  both_below level lower height under later mine earlier theirs first second result told =
      let node : ℕ → Ptr → DamageFact = λ n p. IsDamagedNode (IsSeen old.disk.seen) old.disk.size NamesNode n p in
      damaged_up (OfEither (node lower mine) (node under theirs)) (OfEither (node level later) (node height earlier)) result
      (either_up (node lower mine) (node under theirs) (node level later) (node height earlier) first second)
      (seen_before looks (λ (seen : List ℕ) (size : ℕ). IfDamaged result (OfEither (IsDamagedNode (IsSeen seen) size NamesNode lower mine) (IsDamagedNode (IsSeen seen) size NamesNode under theirs))) told)

  -- and so is what is told below children of two nodes that were read
  pub children_below : {T : Type 0} → (level k : ℕ) (later earlier : Ptr) (node other : List ℕ) → 0 < level → is_flat later ≡ false → is_flat earlier ≡ false
      → IsBlock old.disk.seen later node → IsBlock old.disk.seen earlier other → k < 128 → (result : Result T BlockFault)
      → IfDamaged result (OfEither (IsDamagedNode (IsSeen new.disk.seen) new.disk.size NamesNode (level - 1) (child node k)) (IsDamagedNode (IsSeen new.disk.seen) new.disk.size NamesNode (level - 1) (child other k)))
      → IfDamaged result (OfEither (IsDamagedNode (IsSeen old.disk.seen) old.disk.size NamesNode level later) (IsDamagedNode (IsSeen old.disk.seen) old.disk.size NamesNode level earlier))
  children_below level k later earlier node other some inner also block beside less result told =
      let seen = old.disk.seen in
      both_below level (level - 1) level (level - 1) later (child node k) earlier (child other k)
      (IsBelow-child (IsSeen seen) old.disk.size NamesNode level later node k some inner (record { image = seen; among = refl; block = block }) less)
      (IsBelow-child (IsSeen seen) old.disk.size NamesNode level earlier other k some also (record { image = seen; among = refl; block = beside }) less) result told

-- what is told of a node below a root, as a fact
told_node : (images : List ℕ → Type 0) (size level : ℕ) (root : Ptr) (more : DamageFact) (fault : BlockFault)
    → TellsWithin (IsDamagedNode images size NamesNode level root) more → NamesDamage {T = Unit {0}} images size NamesNode level root (Err fault) → IfDamage fault more
told_node images size level root more (Full need largest) up told = tt
told_node images size level root more (Damaged sector stated found) up told = up sector stated found told
told_node images size level root more DiskFault up told = tt

pub named_up : {T : Type 0} → (images : List ℕ → Type 0) (size level : ℕ) (root : Ptr) (more : DamageFact) (result : Result T BlockFault)
    → TellsWithin (IsDamagedNode images size NamesNode level root) more → NamesDamage images size NamesNode level root result → IfDamaged result more
named_up images size level root more (Ok value) up told = tt
named_up images size level root more (Err fault) up told = told_node images size level root more fault up told

-- the slot at a place of a leaf that is loaded is that of its number
pub slot_there : (has : Blocks) (snap : DatedState) (leaf place : ℕ) (bytes : List ℕ) (slot : Slot) → HasSlots has snap leaf bytes → place < 16 → is_number (16 * leaf + place) ≡ true
    → ((slots : ℕ → Slot) → Spells bytes slots → slot ≡ slots place) → SlotIs has snap (16 * leaf + place) slot
slot_there has snap leaf place bytes slot held less number is = subst (SlotIs has snap (16 * leaf + place)) (sym (is held.slots held.spells)) (held.slots_are.numbers place less number)
