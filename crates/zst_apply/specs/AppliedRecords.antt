-- What a stream's records make of a dated state, and what applying one answers.
use Rattle.std.specs.Prelude.{◌≡◌, ℕ, List, [], ◌∷◌, Result, Ok, Err}
use Rattle.zst_model.specs.declared.refusals.faults.Quantity.TheVariants as quantities
use Rattle.zst_model.specs.declared.refusals.refusal.Refusal.{Refusal}
use Rattle.zst_model.specs.declared.refusals.refusal.Refusal.TheVariants as refusals
use Rattle.zst_model.specs.declared.states.item.Item.{Item}
use Rattle.zst_model.specs.states.State.{index_bound}
use Rattle.zst_model.specs.states.AppliedItems.{◌>>=◌}
use Rattle.zst_model.specs.states.DatedState.{DatedState}
use Rattle.zst_model.specs.sends.ReceivedRecords.{received}
use Rattle.zst_record.specs.declared.head.Head.{Head}
use Rattle.zst_record.specs.RecordValues.{Fits}
use Rattle.zst_objset.specs.Answers.{BlockStops}
use Rattle.zst_objset.specs.declared.fault.ObjFault.{ObjFault}
use Rattle.zst_objset.specs.declared.fault.ObjFault.TheVariants as faults

-- the items that the record with this index says, one after another in the commit of this number, up to the first refusal
abbrev pub received_all : (number index : ℕ) → List Item → DatedState → Result DatedState Refusal
received_all number index [] snap = Ok snap
received_all number index (item ∷ rest) snap = received number index item snap >>= received_all number index rest

-- a record of a stream, with some features
abbrev pub IsOfStream : Head → Type 0
IsOfStream head = (features : ℕ) × Fits features head

-- a refusal of the record with this index is the definition's, or a block's; nothing that a record does reads a redacted block
abbrev pub RefusesRecord : ℕ → Result DatedState Refusal → ObjFault → Type 0
RefusesRecord index definition (faults.CannotApply fault) = definition ≡ Err (refusals.CannotApply index fault)
RefusesRecord index definition (faults.Redacted object block) = ⊥
RefusesRecord index definition (faults.Limit which number) = definition ≡ Err (refusals.Limit which number)
RefusesRecord index definition (faults.Block fault) = BlockStops definition fault

-- the record with this index is applied: what is held then is what the definition makes, or the definition refuses, or a block does
abbrev pub Applies : ℕ → (DatedState → Type 0) → Result DatedState Refusal → Result (Unit {0}) ObjFault → Type 0
Applies index Holds definition (Ok done) = (after : DatedState) × (definition ≡ Ok after) × Holds after
Applies index Holds definition (Err fault) = RefusesRecord index definition fault

-- an E23 is that of an index
abbrev pub LimitOfIndex : ObjFault → Type 0
LimitOfIndex (faults.CannotApply fault) = Unit {0}
LimitOfIndex (faults.Redacted object block) = Unit {0}
LimitOfIndex (faults.Limit which number) = (which ≡ quantities.Block) × (number ≡ index_bound)
LimitOfIndex (faults.Block fault) = Unit {0}
