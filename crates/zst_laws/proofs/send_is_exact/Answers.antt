use Rattle.zst_laws.proofs.sends.ExactSends.{send_exact}
use Rattle.zst_laws.proofs.send_is_exact.Goals as goal

pub returns : goal.returns
returns c = send_exact
