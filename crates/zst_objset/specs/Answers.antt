-- What a call on an object set answers where the set holds a dated state.
use Rattle.std.specs.Prelude.{◌≡◌, ℕ, ◌<◌, List, length, replicate, Option, Some, None, Result, Ok, Err}
use Rattle.zst_block.specs.declared.fault.BlockFault.{BlockFault}
use Rattle.zst_block.specs.declared.fault.BlockFault.TheVariants as blocks
use Rattle.zst_dnode.specs.declared.dnode.Dnode.{Dnode}
use Rattle.zst_dnode.specs.declared.slot.Slot.{Slot}
use Rattle.zst_model.specs.declared.states.cell.Cell.{Cell}
use Rattle.zst_model.specs.declared.states.cell.Cell.TheVariants as cells
use Rattle.zst_model.specs.declared.refusals.faults.Quantity.{Quantity}
use Rattle.zst_model.specs.declared.refusals.refusal.Refusal.{Refusal}
use Rattle.zst_model.specs.declared.refusals.refusal.Refusal.TheVariants as refusals
use Rattle.zst_model.specs.states.State.{Block, Hole, Data}
use Rattle.zst_model.specs.states.DatedState.{DatedState}
use Rattle.zst_tree.specs.Indices.{Blocks}
use Rattle.zst_model.specs.declared.refusals.apply_fault.ApplyFault.TheVariants.{NoObject}
use Rattle.zst_objset.specs.Dnodes.{DnodeIs, IsThere, SlotIs}
use Rattle.zst_objset.specs.declared.fault.ObjFault.{ObjFault}
use Rattle.zst_objset.specs.declared.fault.ObjFault.TheVariants as faults

-- the block fault at which a call on an object set stopped
abbrev pub stop_of : {T : Type 0} → Result T ObjFault → Option BlockFault
stop_of (Ok value) = None
stop_of (Err (faults.CannotApply fault)) = None
stop_of (Err (faults.Redacted object block)) = None
stop_of (Err (faults.Limit which number)) = None
stop_of (Err (faults.Block fault)) = Some fault

-- a block's fault where what is there is lawful: full only where the definition accepts, never damaged
abbrev pub BlockStops : {A : Type 0} → Result A Refusal → BlockFault → Type 0
BlockStops {A = A} definition (blocks.Full need largest) = (after : A) × (definition ≡ Ok after)
BlockStops definition (blocks.Damaged sector stated found) = ⊥
BlockStops definition blocks.DiskFault = Unit {0}

-- a refusal where what is there is lawful: it is the definition's, or a block's
abbrev pub Refuses : {A : Type 0} → Result A Refusal → ObjFault → Type 0
Refuses definition (faults.CannotApply fault) = definition ≡ Err (refusals.CannotApply 0 fault)
Refuses definition (faults.Redacted object block) = definition ≡ Err (refusals.Redacted object block)
Refuses definition (faults.Limit which number) = definition ≡ Err (refusals.Limit which number)
Refuses definition (faults.Block fault) = BlockStops definition fault

-- a change: the set then holds what the definition makes of what it held, or the definition refuses, or a block does
abbrev pub Changes : (DatedState → Type 0) → Result DatedState Refusal → Result (Unit {0}) ObjFault → Type 0
Changes Holds definition (Ok done) = (after : DatedState) × (definition ≡ Ok after) × Holds after
Changes Holds definition (Err fault) = Refuses definition fault

-- what was read of one index is what the definition finds there; a hole is read as zeros
abbrev pub ReadsCell : Result Block Refusal → List ℕ → Cell → Type 0
ReadsCell definition read cells.Hole = (definition ≡ Ok Hole) × (read ≡ replicate (length read) 0)
ReadsCell definition read cells.Redacted = ⊥
ReadsCell definition read cells.Data = definition ≡ Ok (Data read)

-- a read of one index: what is found there, or the definition refuses, or a block does
abbrev pub ReadsBlock : Result Block Refusal → List ℕ → Result Cell ObjFault → Type 0
ReadsBlock definition read (Ok cell) = ReadsCell definition read cell
ReadsBlock definition read (Err fault) = Refuses definition fault

-- only the disk fails
abbrev pub IsDiskFault : ObjFault → Type 0
IsDiskFault (faults.CannotApply fault) = ⊥
IsDiskFault (faults.Redacted object block) = ⊥
IsDiskFault (faults.Limit which number) = ⊥
IsDiskFault (faults.Block (blocks.Full need largest)) = ⊥
IsDiskFault (faults.Block (blocks.Damaged sector stated found)) = ⊥
IsDiskFault (faults.Block blocks.DiskFault) = Unit {0}

-- a dnode is that of the object, and there is none where there is no object; the disk may fail
abbrev pub FindsObject : Blocks → DatedState → ℕ → Result (Option Dnode) ObjFault → Type 0
FindsObject has snap k (Ok found) = DnodeIs has snap k found
FindsObject has snap k (Err fault) = IsDiskFault fault

-- what stands at a number is what the slot says; the disk may fail
abbrev pub FindsSlot : Blocks → DatedState → ℕ → Result Slot ObjFault → Type 0
FindsSlot has snap k (Ok slot) = SlotIs has snap k slot
FindsSlot has snap k (Err fault) = IsDiskFault fault

-- a fault of a block, whatever is there
abbrev pub IsOfBlock : ObjFault → Type 0
IsOfBlock (faults.CannotApply fault) = ⊥
IsOfBlock (faults.Redacted object block) = ⊥
IsOfBlock (faults.Limit which number) = ⊥
IsOfBlock (faults.Block fault) = Unit {0}

-- no E23
abbrev pub NotLimit : ObjFault → Type 0
NotLimit (faults.CannotApply fault) = Unit {0}
NotLimit (faults.Redacted object block) = Unit {0}
NotLimit (faults.Limit which number) = ⊥
NotLimit (faults.Block fault) = Unit {0}

-- no E22
abbrev pub NotRedacted : ObjFault → Type 0
NotRedacted (faults.CannotApply fault) = Unit {0}
NotRedacted (faults.Redacted object block) = ⊥
NotRedacted (faults.Limit which number) = Unit {0}
NotRedacted (faults.Block fault) = Unit {0}

-- E23 of this quantity alone, with its limit, and only where the end of a range is past that
abbrev pub LimitOnly : Quantity → (limit past : ℕ) → ObjFault → Type 0
LimitOnly which limit past (faults.CannotApply fault) = Unit {0}
LimitOnly which limit past (faults.Redacted object block) = Unit {0}
LimitOnly which limit past (faults.Limit other number) = (other ≡ which) × (number ≡ limit) × (limit < past)
LimitOnly which limit past (faults.Block fault) = Unit {0}

-- a dnode is that of the object; E21 where there is none; the disk may fail
abbrev pub FindsThere : Blocks → DatedState → ℕ → Result Dnode ObjFault → Type 0
FindsThere has snap k (Ok dnode) = IsThere has snap k dnode
FindsThere has snap k (Err (faults.CannotApply fault)) = (fault ≡ NoObject) × (snap.state k ≡ None)
FindsThere has snap k (Err (faults.Redacted object block)) = ⊥
FindsThere has snap k (Err (faults.Limit which number)) = ⊥
FindsThere has snap k (Err (faults.Block fault)) = IsDiskFault (faults.Block fault)

-- these bytes were read as data; the disk may fail
abbrev pub ReadsData : List ℕ → List ℕ → Result Cell ObjFault → Type 0
ReadsData bytes read (Ok cell) = (cell ≡ cells.Data) × (read ≡ bytes)
ReadsData bytes read (Err fault) = IsDiskFault fault
