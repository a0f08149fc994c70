use Rattle.zst_replication.proofs.AcceptedSends.{sent_accepted}
use Rattle.zst_replication.proofs.laws.sent_is_accepted.Goals as goal

pub returns : goal.returns
returns c = sent_accepted c.grounds_stand.ensures c.items_are_near.ensures
