use Rattle.zst_objset.proofs.SlotLaws.{IsSummed}
use Rattle.zst_objset.proofs.slots.summed_up.Given as goal

abbrev pub invariant-loop-place : goal.invariant-loop-place
invariant-loop-place l = IsSummed l.node l.place l.all.number l.all.there
