use Rattle.std.proofs.Common.{◌≡◌, Bool, true, false, IsTrue, ◌↔◌, Some, sym, ◌∙◌, ap}
use Rattle.zst_dnode.proofs.Slots.{slice_is, read_is, none_is}
use Rattle.zst_dnode.proofs.slot.Slot.get.Goals as goal

-- a test that failed shows that what it tests doesn't hold
failed : (P : Type 0) (answer : Bool) → (IsTrue answer ↔ P) → answer ≡ false → P → ⊥
failed P answer means fails = λ holds. let passes : answer ≡ true = means.1 holds in cc

pub returns-then-is_spelled-clause-back : goal.returns-then-is_spelled-clause-back
returns-then-is_spelled-clause-back c = λ slot fits is.
    ap Some (read_is _ c.read-slot.result slot c.read-slot.ensures fits (slice_is c.args.bytes.now c.args.at ∙ is))

pub returns-then-is_spelled-clause-spelled : goal.returns-then-is_spelled-clause-spelled
returns-then-is_spelled-clause-spelled c =
    let both = c.is_spelled.ensures.0 c.if-is_spelled.true in (both.0, sym (slice_is c.args.bytes.now c.args.at) ∙ both.1)

pub returns-else-is_spelled-clause-none : goal.returns-else-is_spelled-clause-none
returns-else-is_spelled-clause-none c = λ none slot fits is.
    none_is _ c.read-slot.result slot c.read-slot.ensures (failed _ c.is_spelled.result c.is_spelled.ensures c.if-is_spelled.false) fits (slice_is c.args.bytes.now c.args.at ∙ is)

pub returns-else-is_spelled-clause-back : goal.returns-else-is_spelled-clause-back
returns-else-is_spelled-clause-back c = λ slot fits is.
    absurd (none_is _ c.read-slot.result slot c.read-slot.ensures (failed _ c.is_spelled.result c.is_spelled.ensures c.if-is_spelled.false) fits (slice_is c.args.bytes.now c.args.at ∙ is))
