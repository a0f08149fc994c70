use Rattle.zst_laws.proofs.sends.ViewLaws.{redacted_base}
use Rattle.zst_laws.proofs.redacted_is_base.Goals as goal

pub returns : goal.returns
returns c = redacted_base
