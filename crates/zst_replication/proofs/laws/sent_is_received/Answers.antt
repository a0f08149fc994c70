use Rattle.zst_replication.proofs.FreshReceives.{sent_received}
use Rattle.zst_replication.proofs.laws.sent_is_received.Goals as goal

pub returns : goal.returns
returns c = sent_received c.grounds_stand.ensures
