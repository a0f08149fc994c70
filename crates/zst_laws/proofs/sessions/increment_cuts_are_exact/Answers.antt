use Rattle.zst_laws.proofs.sends.Receives.{increment_cuts_exact}
use Rattle.zst_laws.proofs.sessions.increment_cuts_are_exact.Goals as goal

pub returns : goal.returns
returns c = increment_cuts_exact
