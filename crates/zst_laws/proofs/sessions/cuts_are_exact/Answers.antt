use Rattle.zst_laws.proofs.sends.Receives.{cuts_exact}
use Rattle.zst_laws.proofs.sessions.cuts_are_exact.Goals as goal

pub returns : goal.returns
returns c = cuts_exact
