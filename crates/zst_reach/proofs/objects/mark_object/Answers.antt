use Rattle.zst_reach.proofs.SetFaults.{leaf_delivers, leaf_names}
use Rattle.zst_reach.proofs.objects.mark_object.Goals as goal

pub returns-clause-stands : goal.returns-clause-stands
returns-clause-stands g c = λ honest stands. leaf_delivers _ _ _ c.args.dnode.now.spill _ (c.mark_below-2.ensures.damaged honest)

pub returns-clause-damaged : goal.returns-clause-damaged
returns-clause-damaged g c = λ honest. leaf_names _ _ _ c.args.dnode.now.spill _ _ c.args.dnode.now.levels c.args.dnode.now.root _ (c.mark_below-2.ensures.damaged honest)
