-- What a call on an object set makes of the dated state that it holds, or its refusal. The definition of a command is made of these words.
use Rattle.std.specs.Prelude.{ℕ, ◌+◌, ◌*◌, Bool, false, List, [], ◌∷◌, Option, Some, None, Result, Ok, Err, codes}
use Rattle.zst_model.specs.declared.states.attr.ObjectHead.{ObjectHead}
use Rattle.zst_model.specs.declared.states.item.Change.TheVariants.{Free, Put, Redact, Spill, Write}
use Rattle.zst_model.specs.declared.states.item.Item.{Item}
use Rattle.zst_model.specs.declared.states.item.Item.TheVariants.{At, FreeObjects}
use Rattle.zst_model.specs.declared.refusals.apply_fault.ApplyFault.TheVariants.{NoObject}
use Rattle.zst_model.specs.declared.refusals.refusal.Refusal.{Refusal}
use Rattle.zst_model.specs.declared.refusals.refusal.Refusal.TheVariants as refusals
use Rattle.zst_model.specs.states.State.{Block, Hole, Redacted, Data}
use Rattle.zst_model.specs.states.AppliedItems.{◌>>=◌}
use Rattle.zst_model.specs.states.DatedState.{DatedState, apply_dated, size_at}
use Rattle.zst_model.specs.pools.AnswerLines.{data_line}
use Rattle.zst_model.specs.pools.Pool.{Pool}
use Rattle.zst_model.specs.pools.Step.{Stepped, answered, cannot_apply, in_indices, in_numbers, of_applying, or_else}

-- an item of the commit of this number
abbrev pub changed : ℕ → Item → DatedState → Result DatedState Refusal
changed number item snap = of_applying (apply_dated number item snap)

-- OBJECT: E23 of the number, and then its faults
abbrev pub object_put : ℕ → ℕ → ObjectHead → List ℕ → Bool → DatedState → Result DatedState Refusal
object_put number k head bonus keep_spill snap = in_numbers (k + 1) (changed number (At k (Put head bonus keep_spill 0)) snap)

-- SPILL
abbrev pub spill_put : ℕ → ℕ → List ℕ → DatedState → Result DatedState Refusal
spill_put number k bytes snap = changed number (At k (Spill bytes)) snap

-- an OBJECT that keeps no spill, and then a SPILL where there is one
abbrev pub object_made : ℕ → ℕ → ObjectHead → List ℕ → Option (List ℕ) → DatedState → Result DatedState Refusal
object_made number k head bonus None snap = object_put number k head bonus false snap
object_made number k head bonus (Some spill) snap = object_put number k head bonus false snap >>= spill_put number k spill

-- FREEOBJECTS: E23 of the end of the range
abbrev pub objects_freed : ℕ → ℕ → ℕ → DatedState → Result DatedState Refusal
objects_freed number first count snap = in_numbers (first + count) (changed number (FreeObjects first count) snap)

-- a change of an object's indices up to this one: its faults, and then E23 of the end of the range
abbrev pub indices_changed : ℕ → Result DatedState Refusal → Result DatedState Refusal
indices_changed past change = change >>= λ after. in_indices past (Ok after)

-- WRITE of a whole block
abbrev pub block_written : ℕ → ℕ → ℕ → List ℕ → DatedState → Result DatedState Refusal
block_written number k i bytes snap =
    let size = size_at (snap.state k) in
    indices_changed (i + 1) (changed number (At k (Write (i * size) 0 bytes)) snap)

-- FREE of a range of indices
abbrev pub holes_made : ℕ → ℕ → ℕ → ℕ → DatedState → Result DatedState Refusal
holes_made number k first count snap =
    let size = size_at (snap.state k) in
    indices_changed (first + count) (changed number (At k (Free (first * size) (count * size))) snap)

-- REDACT of a range of indices
abbrev pub range_redacted : ℕ → ℕ → ℕ → ℕ → DatedState → Result DatedState Refusal
range_redacted number k first count snap =
    let size = size_at (snap.state k) in
    indices_changed (first + count) (changed number (At k (Redact (first * size) (count * size))) snap)

-- what a read of one index finds: E22 where it is redacted, and then E23 of the index
abbrev pub block_found : ℕ → ℕ → Block → Result Block Refusal
block_found k i Redacted = Err (refusals.Redacted k i)
block_found k i Hole = in_indices (i + 1) (Ok Hole)
block_found k i (Data bytes) = in_indices (i + 1) (Ok (Data bytes))

-- E21 where there is no such object
abbrev pub found_at : ℕ → ℕ → DatedState → Result Block Refusal
found_at k i snap = or_else (cannot_apply NoObject) (snap.state k) (λ object. block_found k i (object.blocks i))

-- the lines that tell of a block which was read
abbrev pub block_lines : Block → List (List ℕ)
block_lines Hole = codes "hole" ∷ []
block_lines Redacted = []
block_lines (Data bytes) = data_line bytes ∷ []

-- a read's answer, of a pool that stays as it is
abbrev pub block_told : Pool → Result Block Refusal → Result Stepped Refusal
block_told pool found = found >>= λ block. answered pool (block_lines block)
