use Rattle.std.proofs.Common.{refl}
use Rattle.zst_block.specs.Blocks.{Has}
use Rattle.zst_tree.proofs.QuietRanges.{later_none, later_some}
use Rattle.zst_tree.proofs.late_indices.later_from.Goals as goal

pub returns-in-None-clause-later : goal.returns-in-None-clause-later
returns-in-None-clause-later c = λ image space map parts le. later_none map c.args.number (Has image space) c.args.level c.args.base c.args.from c.args.node.now c.requires.inner parts c.in-None.ensures

pub returns-in-Some-clause-later : goal.returns-in-Some-clause-later
returns-in-Some-clause-later c = λ image space map parts le.
    later_some map c.args.number (Has image space) c.args.level c.args.base c.args.from c.in-Some.k c.start_of.result c.args.node.now c.child_at.result c.requires.inner c.in-Some.ensures.0 c.in-Some.ensures.1 parts c.in-Some.ensures.3 c.child_at.ensures.child c.start_of.ensures.value c.in-Some.ensures.2

pub returns-in-Some-clause-late : goal.returns-in-Some-clause-late
returns-in-Some-clause-late c = rw c.child_at.ensures.child c.in-Some.ensures.2

pub returns-in-Some-clause-hangs : goal.returns-in-Some-clause-hangs
returns-in-Some-clause-hangs c = record { level_is = refl; place = c.in-Some.k; under = c.in-Some.ensures.1; ptr_is = c.child_at.ensures.child }
