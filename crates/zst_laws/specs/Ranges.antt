-- Ranges that reach past what a state has.
use Rattle.std.specs.Prelude.{◌≡◌, ℕ, ◌*◌, Some, None, Ok, if◌then◌else◌, nat_lt, nat_le, ◌||◌, ◌&&◌}
use Rattle.zst_model.specs.declared.refusals.apply_fault.ApplyFault.TheVariants.{Unaligned}
use Rattle.zst_model.specs.declared.states.item.Change.TheVariants.{Free, FreeFrom}
use Rattle.zst_model.specs.declared.states.item.Item.TheVariants.{FreeObjects}
use Rattle.zst_model.specs.states.State.{Hole, Object, State, IsObject, IsState, is_number, index_bound}
use Rattle.zst_model.specs.states.AppliedItems.{apply, apply_change, is_unaligned, unless, with_blocks, within}

-- in a lawful state FREEOBJECTS does what its range does without 0 and cut at 2^48
abbrev pub NumbersAreCut : Type 0
NumbersAreCut =
    (state : State) (first count : ℕ) → IsState state
    → apply (FreeObjects first count) state ≡ Ok (λ k. if within first count k && is_number k then None else state k)

-- in a lawful object a FREE does what its range does cut at index 2^43
abbrev pub IndicesAreCut : Type 0
IndicesAreCut =
    (object : Object) (offset length : ℕ) → IsObject object
    → let size = object.attr.block_size in
    (apply_change (Free offset length) (Some object)
    ≡ unless (is_unaligned size offset || is_unaligned size length) Unaligned
    (with_blocks object (λ i. if within offset length (i * size) && nat_lt i index_bound then Hole else object.blocks i)))
    × (apply_change (FreeFrom offset) (Some object)
    ≡ unless (is_unaligned size offset) Unaligned
    (with_blocks object (λ i. if nat_le offset (i * size) && nat_lt i index_bound then Hole else object.blocks i)))
