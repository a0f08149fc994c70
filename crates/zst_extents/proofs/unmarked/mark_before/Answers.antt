use Rattle.zst_extents.proofs.MarkedBlocks.{marked_inside, marked_past}
use Rattle.zst_extents.proofs.unmarked.mark_before.Goals as goal

pub returns-then-first-end-clause-marked : goal.returns-then-first-end-clause-marked
returns-then-first-end-clause-marked c = marked_inside c.args.first c.args.end c.args.marks.now c.mark.new.self (c.requires.whole c.if-first-end.true) c.mark.ensures.marked

pub returns-else-first-end-clause-marked : goal.returns-else-first-end-clause-marked
returns-else-first-end-clause-marked c = marked_past c.args.first c.args.end c.args.marks.now c.if-first-end.false
