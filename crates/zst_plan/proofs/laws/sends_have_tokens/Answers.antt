use Rattle.zst_plan.proofs.SentTokens.{sends_have_tokens}
use Rattle.zst_plan.proofs.laws.sends_have_tokens.Goals as goal

pub returns : goal.returns
returns c = sends_have_tokens
