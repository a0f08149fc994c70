use Rattle.zst_laws.proofs.sends.ExactSends.{full_base}
use Rattle.zst_laws.proofs.any_is_full_base.Goals as goal

pub returns : goal.returns
returns c = full_base
