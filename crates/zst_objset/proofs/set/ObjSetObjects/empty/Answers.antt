use Rattle.zst_objset.proofs.TightLaws.{tight_empty}
use Rattle.zst_objset.proofs.set.ObjSetObjects.empty.Goals as goal

pub returns-clause-tight : goal.returns-clause-tight
returns-clause-tight g c = λ image space. rw c.empty.ensures (tight_empty image space)
