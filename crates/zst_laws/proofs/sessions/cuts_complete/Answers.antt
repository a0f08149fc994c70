use Rattle.zst_laws.proofs.sends.Receives.{cuts_completed}
use Rattle.zst_laws.proofs.sessions.cuts_complete.Goals as goal

pub returns : goal.returns
returns c = cuts_completed
