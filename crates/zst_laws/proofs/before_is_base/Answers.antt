use Rattle.zst_laws.proofs.sends.ViewLaws.{before_base}
use Rattle.zst_laws.proofs.before_is_base.Goals as goal

pub returns : goal.returns
returns c = before_base
