use Rattle.zst_laws.proofs.sends.ExactSends.{redacted_lawful}
use Rattle.zst_laws.proofs.redacted_is_state.Goals as goal

pub returns : goal.returns
returns c = redacted_lawful
