use Rattle.zst_reach.proofs.SetWalks.{AreMarkedInSet-empty}
use Rattle.zst_roots.proofs.nearest.walked_at.Goals as goal

pub returns-clause-marked : goal.returns-clause-marked
returns-clause-marked c = λ image marks end are. rw c.empty.ensures (AreMarkedInSet-empty image end marks)
