-- What a change of some numbers makes of a dated state.
use Rattle.std.specs.Prelude.{◌≡◌, ◌⊎◌, ℕ, ◌<◌, ◌≤◌, true, Some, Ok, if◌then◌else◌}
use Rattle.zst_dnode.specs.Dnode.{DnodeFits}
use Rattle.zst_dnode.specs.declared.dnode.Dnode.{Dnode}
use Rattle.zst_dnode.specs.declared.slot.Slot.{Slot}
use Rattle.zst_laws.specs.Dates.{IsLawfulItem}
use Rattle.zst_model.specs.declared.states.item.Change.{Change}
use Rattle.zst_model.specs.declared.states.item.Item.TheVariants.{At}
use Rattle.zst_model.specs.pools.Soundness.{DatedUpTo}
use Rattle.zst_model.specs.states.AppliedItems.{apply_change}
use Rattle.zst_model.specs.states.State.{IsState, Object, is_number, index_bound}
use Rattle.zst_model.specs.states.DatedState.{DatedState, dates_index, dates_number}
use Rattle.zst_tree.specs.Indices.{Blocks, Map}
use Rattle.zst_objset.specs.Dnodes.{ObjectIs, SlotIs}
use Rattle.zst_objset.specs.Sets.{IsBounded}

-- two states say the same of a number
pub record Alike (old new : DatedState) (k : ℕ) : Type 0 where
  pub state : new.state k ≡ old.state k
  pub date : new.number_date k ≡ old.number_date k
  pub dates : (i : ℕ) → i < index_bound → new.index_date k i ≡ old.index_date k i

-- from one number on and below another a state has what the slot says, and at each other number what it had
pub record PutsSlot (has : Blocks) (old new : DatedState) (from below : ℕ) (slot : Slot) : Type 0 where
  pub lawful : IsState new.state
  pub bounded : IsBounded new
  pub put : (k : ℕ) → is_number k ≡ true → from ≤ k → k < below → SlotIs has new k slot
  pub kept : (k : ℕ) → is_number k ≡ true → (k < from) ⊎ (below ≤ k) → Alike old new k

-- where a state is dated up to a number, so was the one before it
abbrev pub DatesRise : DatedState → DatedState → Type 0
DatesRise old new = (number : ℕ) → DatedUpTo number new → DatedUpTo number old

-- the date of a number after a change in a commit
abbrev pub date_to : ℕ → ℕ → Change → DatedState → ℕ
date_to number k change old = if dates_number change then number else old.number_date k

-- the dates of its indices
abbrev pub dates_to : ℕ → ℕ → Change → DatedState → ℕ → ℕ
dates_to number k change old i = if dates_index change (old.state k) i then number else old.index_date k i

-- a lawful change makes an object of what stands at a number, and a dnode is that object's, with the dates of the commit of this number
pub record MakesDnode (has : Blocks) (number k : ℕ) (change : Change) (old : DatedState) (dnode : Dnode) : Type 0 where
  pub object : Object
  pub made : apply_change change (old.state k) ≡ Ok (Some object)
  pub lawful : IsLawfulItem (At k change) old.state
  pub fits : DnodeFits dnode
  pub map : Map
  pub is : ObjectIs has dnode object (date_to number k change old) (dates_to number k change old) map
