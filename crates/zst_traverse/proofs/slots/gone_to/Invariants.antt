use Rattle.std.proofs.Common.{ℕ, ◌+◌}
use Rattle.zst_dnode.specs.declared.slot.Slot.{Slot}
use Rattle.zst_objset.specs.Sets.{Spells}
use Rattle.zst_traverse.specs.Slots.{AreGone}
use Rattle.zst_traverse.proofs.slots.gone_to.Given as goal

abbrev pub invariant-loop-place : goal.invariant-loop-place
invariant-loop-place l = (held : ℕ → Slot) → Spells l.node held → AreGone held l.source (l.from + 1) l.place
