use Rattle.zst_reach.proofs.objects.mark_slot.Goals as goal

pub returns-in-There-clause-all : goal.returns-in-There-clause-all
returns-in-There-clause-all g c = λ level known honest is are.
    rw c.in-There.is (c.mark_object.ensures.all honest (c.object_beside.ensures _ _ c.args.end level known is are))
