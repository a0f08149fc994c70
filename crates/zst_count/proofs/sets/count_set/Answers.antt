use Rattle.std.proofs.Common.{arith}
use Rattle.zst_tree.proofs.Span.{span_limit}
use Rattle.zst_count.proofs.StandingSets.{SetHolds-stands}
use Rattle.zst_count.proofs.sets.count_set.Goals as goal

pub count_leaves-requires-clause-first : goal.count_leaves-requires-clause-first
count_leaves-requires-clause-first g c = omega (arith, span_limit c.args.set.now.tree.levels (omega arith))

pub returns-clause-holds : goal.returns-clause-holds
returns-clause-holds g c = λ state honest holds. c.count_leaves.ensures.stands honest (SetHolds-stands _ _ c.args.set.now state holds).below
