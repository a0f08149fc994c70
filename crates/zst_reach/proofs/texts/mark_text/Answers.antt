use Rattle.std.proofs.Common.{refl}
use Rattle.zst_reach.proofs.ReachedLaws.{AreMarked-flat}
use Rattle.zst_reach.proofs.StandingTrees.{HasLeaves-nodes}
use Rattle.zst_reach.proofs.texts.mark_text.Goals as goal

pub returns-clause-all : goal.returns-clause-all
returns-clause-all g c = λ honest. c.mark_below.ensures.all honest (AreMarked-flat _ c.args.end _ 0 c.hole.result (rw c.hole.ensures refl))

pub returns-clause-there : goal.returns-clause-there
returns-clause-there g c = λ text honest has. c.mark_below.ensures.stands honest (HasLeaves-nodes _ _ c.args.levels c.args.root text has)
