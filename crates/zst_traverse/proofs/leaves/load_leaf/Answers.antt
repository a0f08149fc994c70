use Rattle.std.proofs.Common.{arith}
use Rattle.zst_tree.proofs.StepLooks.{InSteps-one}
use Rattle.zst_traverse.proofs.leaves.load_leaf.Goals as goal

pub returns-clause-slots : goal.returns-clause-slots
returns-clause-slots g c = c.load_slots.ensures.slots_in

pub returns-clause-loaded : goal.returns-clause-loaded
returns-clause-loaded g c = c.load_slots.ensures.loaded

pub returns-clause-damaged : goal.returns-clause-damaged
returns-clause-damaged g c = c.load_slots.ensures.damaged

pub returns-clause-looks : goal.returns-clause-looks
returns-clause-looks g c = InSteps-one (omega arith) (record { looks = c.load_slots.ensures.looks; calls = c.load_slots.ensures.calls })

pub load_slots-requires : goal.load_slots-requires
load_slots-requires g c = record { leaf = c.requires.index }
