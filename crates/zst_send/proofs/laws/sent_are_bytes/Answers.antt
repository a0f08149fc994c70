use Rattle.zst_send.proofs.SentTexts.{rests_are, sent_are}
use Rattle.zst_send.proofs.laws.sent_are_bytes.Goals as goal

pub returns-clause-sent : goal.returns-clause-sent
returns-clause-sent c = sent_are c.text_is_bytes.ensures c.plans_are_of_pool.ensures

pub returns-clause-rest : goal.returns-clause-rest
returns-clause-rest c = rests_are c.text_is_bytes.ensures
