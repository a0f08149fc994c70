use Rattle.zst_laws.proofs.sends.ExactSends.{full_exact}
use Rattle.zst_laws.proofs.full_is_exact.Goals as goal

pub returns : goal.returns
returns c = full_exact
