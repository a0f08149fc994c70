use Rattle.zst_laws.proofs.sends.Walk.{gone_next}
use Rattle.zst_laws.proofs.gone_is_next.Goals as goal

pub returns : goal.returns
returns c = gone_next
