use Rattle.zst_check.proofs.Denials.{differs_denies}
use Rattle.zst_check.proofs.laws.differences_deny_agreement.Goals as goal

pub returns : goal.returns
returns c = differs_denies
