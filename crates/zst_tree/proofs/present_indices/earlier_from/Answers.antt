use Rattle.std.proofs.Common.{refl, arith}
use Rattle.zst_block.specs.Blocks.{Has}
use Rattle.zst_tree.proofs.EmptyRanges.{earlier_none, earlier_some}
use Rattle.zst_tree.proofs.present_indices.earlier_from.Goals as goal

pub returns-in-None-clause-earlier : goal.returns-in-None-clause-earlier
returns-in-None-clause-earlier c = λ image space map parts. earlier_none map (Has image space) c.args.level c.args.base c.args.below c.args.node.now c.requires.inner c.requires.below parts c.in-None.ensures

pub returns-in-Some-clause-earlier : goal.returns-in-Some-clause-earlier
returns-in-Some-clause-earlier c = λ image space map parts.
    earlier_some map (Has image space) c.args.level c.args.base c.args.below c.in-Some.k c.start_of.result c.args.node.now c.child_at.result c.requires.inner c.requires.below c.in-Some.ensures.0 parts c.in-Some.ensures.2 c.child_at.ensures.child c.start_of.ensures.value c.in-Some.ensures.1

pub returns-in-Some-clause-present : goal.returns-in-Some-clause-present
returns-in-Some-clause-present c = rw c.child_at.ensures.child c.in-Some.ensures.1

pub returns-in-Some-clause-hangs : goal.returns-in-Some-clause-hangs
returns-in-Some-clause-hangs c = record { level_is = refl; place = c.in-Some.k; under = omega (arith, c.in-Some.ensures.0, c.requires.below); ptr_is = c.child_at.ensures.child }
