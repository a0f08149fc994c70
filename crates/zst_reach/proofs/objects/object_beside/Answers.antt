use Rattle.std.proofs.Common.{refl}
use Rattle.zst_reach.proofs.ReachedLaws.{AreMarked-flat}
use Rattle.zst_reach.proofs.objects.object_beside.Goals as goal

pub returns : goal.returns
returns c = λ image marks end level known is are.
    let nothing = AreMarked-flat image end marks 0 c.hole-hole.result (rw c.hole-hole.ensures refl) in
    (nothing, nothing)
