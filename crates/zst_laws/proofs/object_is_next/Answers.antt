use Rattle.zst_laws.proofs.sends.Walk.{object_next}
use Rattle.zst_laws.proofs.object_is_next.Goals as goal

pub returns : goal.returns
returns c = object_next
