use Rattle.std.proofs.Common.{subst}
use Rattle.zst_block.specs.IoStates.{blocks_of, disk_of}
use Rattle.zst_dnode.specs.declared.slot.Slot.{Slot}
use Rattle.zst_objset.specs.Dnodes.{SlotIs}
use Rattle.zst_compare.proofs.slots.compare_slots.Goals as goal

pub returns-in-Absent-clause-compared : goal.returns-in-Absent-clause-compared
returns-in-Absent-clause-compared g c = λ was now k honest before after first second.
    c.compare_absent.ensures.compared (disk_of c.args.io.now).seen c.args.io.now.space was now k (subst (λ (slot : Slot). SlotIs (blocks_of c.args.io.now) now k slot) c.in-Absent.is first) second
