use Rattle.zst_laws.proofs.sends.Receives.{full_cuts_exact}
use Rattle.zst_laws.proofs.sessions.full_cuts_are_exact.Goals as goal

pub returns : goal.returns
returns c = full_cuts_exact
