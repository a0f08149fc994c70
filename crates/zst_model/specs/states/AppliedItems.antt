-- What a receiver makes of a state with an item.
use Rattle.std.specs.Prelude.{ℕ, ◌+◌, ◌*◌, ◌%◌, Bool, true, false, not, List, [], ◌∷◌, length, Option, Some, None, Result, Ok, Err, if◌then◌else◌, nat_lt, nat_le, ◌==◌, ◌||◌, ◌&&◌}
use Rattle.zst_model.specs.declared.states.attr.Attr.{Attr}
use Rattle.zst_model.specs.declared.states.attr.ObjectHead.{ObjectHead}
use Rattle.zst_model.specs.declared.states.item.Change.{Change}
use Rattle.zst_model.specs.declared.states.item.Change.TheVariants.{Put, Spill, FreeFrom, Free, Redact, Write}
use Rattle.zst_model.specs.declared.states.item.Item.{Item}
use Rattle.zst_model.specs.declared.states.item.Item.TheVariants.{FreeObjects, At}
use Rattle.zst_model.specs.declared.refusals.apply_fault.ApplyFault.{ApplyFault}
use Rattle.zst_model.specs.declared.refusals.apply_fault.ApplyFault.TheVariants.{NoObject, SizeDiffers, Unaligned, OddBlock, NotUserData}
use Rattle.zst_model.specs.states.State.{Block, Hole, Redacted, Data, Object, State, is_user_data, is_odd_size}

-- what comes next of a value, where there was no fault
infixl 10 ◌>>=◌
abbrev pub ◌>>=◌ : {A B E : Type 0} → Result A E → (A → Result B E) → Result B E
(Ok x) >>= f = f x
(Err fault) >>= f = Err fault

-- the fault where the test holds, and otherwise the rest: of faults that are nested, the outermost comes first
abbrev pub unless : {A E : Type 0} → Bool → E → Result A E → Result A E
unless true fault rest = Err fault
unless false fault rest = rest

-- whether a number is one of `count` from `first` on
abbrev pub within : ℕ → ℕ → ℕ → Bool
within first count k = nat_le first k && nat_lt k (first + count)

-- no multiple of the block size
abbrev pub is_unaligned : ℕ → ℕ → Bool
is_unaligned size n = not (n % size == 0)

-- attributes of a head, a bonus and a spill
abbrev pub attr_with : ObjectHead → List ℕ → Option (List ℕ) → Attr
attr_with head bonus spill = record { type_ = head.type_; bonus_type = head.bonus_type; block_size = head.block_size; bonus = bonus; spill = spill }

-- an object with other blocks
abbrev pub with_blocks : Object → (ℕ → Block) → Result (Option Object) ApplyFault
with_blocks object blocks = Ok (Some (record { attr = object.attr; blocks = blocks }))

-- which byte places a change covers: it writes, punches or redacts the indices that stand at them
abbrev pub covers : Change → ℕ → Bool
covers (Put head bonus keep_spill max_block) place = false
covers (Spill bytes) place = false
covers (FreeFrom offset) place = nat_le offset place
covers (Free offset length) place = within offset length place
covers (Redact offset length) place = within offset length place
covers (Write offset type bytes) place = place == offset

-- what a change makes of what stands at its number, one clause for each record and case; an index stands at the byte `i * block size`
unfoldable pub apply_change : Change → Option Object → Result (Option Object) ApplyFault
apply_change (Put head bonus keep_spill max_block) None = Ok (Some (record { attr = attr_with head bonus None; blocks = λ i. Hole }))
apply_change (Put head bonus keep_spill max_block) (Some object) =
    Ok (Some (record {
      attr = attr_with head bonus (if keep_spill then object.attr.spill else None);
      blocks = if object.attr.block_size == head.block_size then object.blocks else λ i. Hole;
    }))
apply_change (Spill bytes) None = Err NoObject
apply_change (Spill bytes) (Some object) = Ok (Some (record { attr = record object.attr { spill = Some bytes }; blocks = object.blocks }))
apply_change (FreeFrom offset) None = Err NoObject
apply_change (FreeFrom offset) (Some object) =
    let size = object.attr.block_size in
    unless (is_unaligned size offset) Unaligned
    (with_blocks object (λ i. if covers (FreeFrom offset) (i * size) then Hole else object.blocks i))
apply_change (Free offset length) None = Err NoObject
apply_change (Free offset length) (Some object) =
    let size = object.attr.block_size in
    unless (is_unaligned size offset || is_unaligned size length) Unaligned
    (with_blocks object (λ i. if covers (Free offset length) (i * size) then Hole else object.blocks i))
apply_change (Redact offset length) None = Err NoObject
apply_change (Redact offset length) (Some object) =
    let size = object.attr.block_size in
    unless (not (is_user_data object.attr)) NotUserData
    (unless (is_unaligned size offset || is_unaligned size length) Unaligned
    (unless (is_odd_size size && (nat_lt 0 length && nat_lt size (offset + length))) OddBlock
    (with_blocks object (λ i. if covers (Redact offset length) (i * size) then Redacted else object.blocks i))))
apply_change (Write offset type bytes) None = Err NoObject
apply_change (Write offset type bytes) (Some object) =
    let size = object.attr.block_size in
    unless (not (length bytes == size)) SizeDiffers
    (unless (is_unaligned size offset) Unaligned
    (unless (is_odd_size size && nat_lt 0 offset) OddBlock
    (with_blocks object (λ i. if covers (Write offset type bytes) (i * size) then Data bytes else object.blocks i))))

-- one change after another, up to the first fault
abbrev pub apply_changes : List Change → Option Object → Result (Option Object) ApplyFault
apply_changes [] object = Ok object
apply_changes (change ∷ rest) object = apply_change change object >>= apply_changes rest

-- what it was, but for this at one number
abbrev pub put_at : {X : Type 0} → (ℕ → X) → ℕ → X → ℕ → X
put_at f k x j = if j == k then x else f j

-- what an item makes of a state; 0 and the numbers from 2^48 on are absent in every lawful state, so that a range of numbers needs no cut here
unfoldable pub apply : Item → State → Result State ApplyFault
apply (FreeObjects first count) state = Ok (λ k. if within first count k then None else state k)
apply (At k change) state = apply_change change (state k) >>= λ object. Ok (put_at state k object)

-- one item after another, up to the first fault
abbrev pub apply_all : List Item → State → Result State ApplyFault
apply_all [] state = Ok state
apply_all (item ∷ rest) state = apply item state >>= apply_all rest
