-- Sets whose slots tell no date that their numbers haven't.
use Rattle.std.specs.Prelude.{◌⊎◌, ℕ, ◌+◌, ◌*◌, ◌^◌, ◌<◌, ◌≤◌, List}
use Rattle.zst_block.specs.declared.ptr.Ptr.{Ptr}
use Rattle.zst_dnode.specs.declared.dnode.Dnode.{Dnode}
use Rattle.zst_dnode.specs.declared.slot.Slot.{Slot}
use Rattle.zst_dnode.specs.declared.slot.Slot.TheVariants.{There}
use Rattle.zst_model.specs.declared.states.item.Change.{Change}
use Rattle.zst_model.specs.pools.Soundness.{DatedUpTo}
use Rattle.zst_model.specs.states.DatedState.{DatedState}
use Rattle.zst_model.specs.states.State.{index_bound}
use Rattle.zst_tree.specs.Changes.{TreeDatedUpTo}
use Rattle.zst_tree.specs.Indices.{Blocks}
use Rattle.zst_tree.specs.declared.tree.ObjSet.{ObjSet}
use Rattle.zst_objset.specs.SlotPuts.{date_to, dates_to}
use Rattle.zst_objset.specs.Sets.{date_in, SetIn, Spells}

-- the latest date that a slot tells is no later than its number's date, or than the date of one of its indices. A tree's pointers also stand for indices past 2^43, whose dates no state has
abbrev pub IsTightSlot : DatedState → ℕ → Slot → Type 0
IsTightSlot snap k slot = (date_in slot ≤ snap.number_date k) ⊎ ((i : ℕ) × (i < index_bound) × (date_in slot ≤ snap.index_date k i))

-- so it is with each slot that a leaf's pointer names
abbrev pub IsTightLeaf : Blocks → DatedState → ℕ → Ptr → Type 0
IsTightLeaf has snap j ptr = (bytes : List ℕ) (held : ℕ → Slot) → has ptr bytes → Spells bytes held → (s : ℕ) → s < 16 → IsTightSlot snap (16 * j + s) (held s)

-- the set holds this dated state, and so it is with each of its leaves
pub record SetIsTightIn (has : Blocks) (reads : ℕ → ℕ → Blocks) (set : ObjSet) (snap : DatedState) : Type 0 where
  pub holds : SetIn has reads set snap
  pub tight : (j : ℕ) → j < 2 ^ 44 → IsTightLeaf has snap j (holds.map j)
  -- no pointer of its tree tells a date later than all that the state has: not one of a seventh level either, which stands for numbers too that no object has
  pub tells : (number : ℕ) → DatedUpTo number snap → TreeDatedUpTo number set.tree

abbrev pub SetIsTight : Blocks → ObjSet → DatedState → Type 0
SetIsTight has set snap = SetIsTightIn has (λ k i. has) set snap

-- so it is with each slot that the block of a leaf spells
abbrev pub AreTight : DatedState → ℕ → List ℕ → Type 0
AreTight snap j bytes = (held : ℕ → Slot) → Spells bytes held → (s : ℕ) → s < 16 → IsTightSlot snap (16 * j + s) (held s)

-- so it is with the slot of a dnode, with the dates that its number and its indices have after a change in a commit
abbrev pub IsTightDnode : ℕ → ℕ → Change → DatedState → Dnode → Type 0
IsTightDnode number k change old dnode = (date_in (There dnode) ≤ date_to number k change old) ⊎ ((i : ℕ) × (i < index_bound) × (date_in (There dnode) ≤ dates_to number k change old i))
