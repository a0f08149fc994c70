use Rattle.zst_laws.proofs.sends.Walk.{gone_run_next}
use Rattle.zst_laws.proofs.gone_run_is_next.Goals as goal

pub returns : goal.returns
returns c = gone_run_next
