use Rattle.std.proofs.Common.{arith}
use Rattle.zst_block.specs.IoStates.{blocks_of}
use Rattle.zst_objset.specs.Dnodes.{outside}
use Rattle.zst_tree.proofs.Span.{span_limit}
use Rattle.zst_reach.proofs.StandingTrees.{SetIn-stands}
use Rattle.zst_reach.proofs.sets.mark_set.Goals as goal

pub mark_leaves-requires-clause-first : goal.mark_leaves-requires-clause-first
mark_leaves-requires-clause-first g c = omega (arith, span_limit c.args.set.now.tree.levels (omega arith))

pub returns-clause-there : goal.returns-clause-there
returns-clause-there g c = λ pairs snap honest holds. c.mark_leaves.ensures.stands honest (SetIn-stands _ _ (outside pairs (blocks_of c.args.io.now)) c.args.set.now snap holds)
