-- What a received record makes of a partial state: the faults of the record come first, and then the limit of indices.
use Rattle.std.specs.Prelude.{ℕ, ◌+◌, ◌*◌, Bool, false, length, Result, Ok, Err, nat_lt}
use Rattle.zst_model.specs.declared.refusals.apply_fault.ApplyFault.{ApplyFault}
use Rattle.zst_model.specs.declared.refusals.faults.Quantity.TheVariants as quantities
use Rattle.zst_model.specs.declared.refusals.refusal.Refusal.{Refusal}
use Rattle.zst_model.specs.declared.refusals.refusal.Refusal.TheVariants as refusals
use Rattle.zst_model.specs.declared.states.item.Change.{Change}
use Rattle.zst_model.specs.declared.states.item.Change.TheVariants.{Put, Spill, FreeFrom, Free, Redact, Write}
use Rattle.zst_model.specs.declared.states.item.Item.{Item}
use Rattle.zst_model.specs.declared.states.item.Item.TheVariants.{FreeObjects, At}
use Rattle.zst_model.specs.states.State.{State, index_bound}
use Rattle.zst_model.specs.states.AppliedItems.{unless, ◌>>=◌}
use Rattle.zst_model.specs.states.DatedState.{DatedState, size_at, apply_dated}
use Rattle.zst_model.specs.sends.Points.{point_after}
use Rattle.zst_model.specs.pools.Pool.{Partial}

-- whether a change takes an object of this block size past index 2^43 - 1: a WRITE or a REDACT that ends there does. A FREE is cut instead.
abbrev pub is_change_past : Change → ℕ → Bool
is_change_past (Put head bonus keep_spill max_block) size = false
is_change_past (Spill bytes) size = false
is_change_past (FreeFrom offset) size = false
is_change_past (Free offset count) size = false
is_change_past (Redact offset count) size = nat_lt (index_bound * size) (offset + count)
is_change_past (Write offset type bytes) size = nat_lt (index_bound * size) (offset + length bytes)

-- whether an item does so to an object of the state
abbrev pub is_past : Item → State → Bool
is_past (FreeObjects first count) state = false
is_past (At k change) state = is_change_past change (size_at (state k))

-- what applying gave, with its fault as E21 of the record with this index; BEGIN has the index 0
abbrev pub of_record : {A : Type 0} → ℕ → Result A ApplyFault → Result A Refusal
of_record index (Ok made) = Ok made
of_record index (Err fault) = Err (refusals.CannotApply index fault)

-- what the record with this index makes of a dated state, in the commit of this number: E21, and then E23 of an index
abbrev pub received : (number index : ℕ) → Item → DatedState → Result DatedState Refusal
received number index item snap =
    of_record index (apply_dated number item snap) >>= λ after.
    unless (is_past item snap.state) (refusals.Limit quantities.Block index_bound)
    (Ok after)

-- what it makes of a partial state, whose point it moves too
abbrev pub moved : (number index : ℕ) → Item → Partial → Result Partial Refusal
moved number index item partial =
    received number index item partial.objects >>= λ objects.
    Ok (record partial { objects = objects; point = point_after partial.point item })
