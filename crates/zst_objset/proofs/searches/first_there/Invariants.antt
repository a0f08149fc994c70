use Rattle.std.proofs.Common.{ℕ}
use Rattle.zst_dnode.specs.declared.slot.Slot.{Slot}
use Rattle.zst_objset.specs.Searches.{AreEmpty}
use Rattle.zst_objset.specs.Sets.{Spells}
use Rattle.zst_objset.proofs.searches.first_there.Given as goal

abbrev pub invariant-loop-place : goal.invariant-loop-place
invariant-loop-place l = (slots : ℕ → Slot) → Spells l.node slots → AreEmpty slots l.from l.place
