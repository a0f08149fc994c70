use Rattle.zst_plan.proofs.AcceptedTokens.{accepted, sent_absent, from_absent, mark_absent}
use Rattle.zst_plan.proofs.laws.tokens_are_accepted.Goals as goal

pub returns : goal.returns
returns c = record { accepted = accepted; sent = sent_absent; from = from_absent; mark = mark_absent }
