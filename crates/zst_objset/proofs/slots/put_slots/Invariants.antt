use Rattle.zst_dnode.specs.Slot.{slot_bytes}
use Rattle.zst_objset.proofs.SlotLaws.{Puts}
use Rattle.zst_objset.proofs.slots.put_slots.Given as goal

abbrev pub invariant-loop-place : goal.invariant-loop-place
invariant-loop-place l = Puts (slot_bytes l.slot) l.fn.node l.node l.from l.place
