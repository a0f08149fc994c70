use Rattle.std.proofs.Common.{ℕ}
use Rattle.zst_dnode.specs.declared.slot.Slot.{Slot}
use Rattle.zst_objset.specs.Sets.{Spells}
use Rattle.zst_traverse.specs.Slots.{AreEarly}
use Rattle.zst_traverse.proofs.slots.late_slot.Given as goal

abbrev pub invariant-loop-place : goal.invariant-loop-place
invariant-loop-place l = (held : ℕ → Slot) → Spells l.node held → AreEarly held l.source l.from l.place
