use Rattle.zst_laws.proofs.sends.ResumedSends.{resume_exact}
use Rattle.zst_laws.proofs.resume_is_exact.Goals as goal

pub returns : goal.returns
returns c = resume_exact
