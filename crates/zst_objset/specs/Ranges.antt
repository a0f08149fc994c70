-- What a change of a range of indices makes of an object, and what it is refused for.
use Rattle.std.specs.Prelude.{ℕ, ◌+◌, ◌*◌, not, List, Option, Result, Ok, if◌then◌else◌, nat_lt, ◌==◌, ◌||◌, ◌&&◌}
use Rattle.zst_block.specs.declared.ptr.Ptr.{Ptr}
use Rattle.zst_dnode.specs.declared.dnode.Dnode.{Dnode}
use Rattle.zst_model.specs.declared.refusals.apply_fault.ApplyFault.{ApplyFault}
use Rattle.zst_model.specs.declared.refusals.apply_fault.ApplyFault.TheVariants.{OddBlock, NotUserData}
use Rattle.zst_model.specs.declared.states.item.Change.{Change}
use Rattle.zst_model.specs.declared.states.item.Change.TheVariants.{Free, Redact}
use Rattle.zst_model.specs.states.AppliedItems.{unless, within}
use Rattle.zst_model.specs.states.DatedState.{size_at}
use Rattle.zst_model.specs.states.State.{Block, Object, is_odd_size}
use Rattle.zst_tree.specs.Damage.{NamesNode, SumsUp}
use Rattle.zst_objset.specs.declared.ranges.RangeChange.{RangeChange}
use Rattle.zst_objset.specs.declared.ranges.RangeChange.TheVariants as ranges

-- a FREE of a range of indices of what stands at a number: an index stands at the byte place `i * block size`
abbrev pub free_of : ℕ → ℕ → Option Object → Change
free_of first count object = Free (first * size_at object) (count * size_at object)

-- a REDACT of one
abbrev pub redact_of : ℕ → ℕ → Option Object → Change
redact_of first count object = Redact (first * size_at object) (count * size_at object)

-- either
abbrev pub change_of : RangeChange → ℕ → ℕ → Option Object → Change
change_of ranges.Punch first count object = free_of first count object
change_of ranges.Redact first count object = redact_of first count object

-- what it was, but for this at each index of a range
abbrev pub put_range : {X : Type 0} → ℕ → ℕ → X → (ℕ → X) → ℕ → X
put_range first count x f i = if within first count i then x else f i

-- an object with this block at each index of a range
abbrev pub with_range : ℕ → ℕ → Block → Object → Object
with_range first count block object = record { attr = object.attr; blocks = put_range first count block object.blocks }

-- what a redaction of a range of an object's indices is refused for: it isn't user data, or its block size is odd and the range has an index over 0
abbrev pub redaction_check : Dnode → ℕ → ℕ → Result (Unit {0}) ApplyFault
redaction_check dnode first count =
    unless (not (dnode.type_ == 19 || dnode.type_ == 23)) NotUserData
    (unless (is_odd_size dnode.block_size && (nat_lt 0 count && nat_lt 1 (first + count))) OddBlock
    (Ok tt))

-- what a change of a range is refused for
abbrev pub range_check : RangeChange → Dnode → ℕ → ℕ → Result (Unit {0}) ApplyFault
range_check ranges.Punch dnode first count = Ok tt
range_check ranges.Redact dnode first count = redaction_check dnode first count

-- what a pointer in the object's tree has to be where the change reads a node: a FREE also looks at its sums of what stands there
abbrev pub IsRightNode : RangeChange → (List ℕ → Type 0) → ℕ → Ptr → Type 0
IsRightNode ranges.Punch images level ptr = SumsUp images level ptr
IsRightNode ranges.Redact images level ptr = NamesNode level ptr
