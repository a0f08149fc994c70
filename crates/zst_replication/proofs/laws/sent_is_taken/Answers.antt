use Rattle.zst_replication.proofs.TakenSends.{sent_taken}
use Rattle.zst_replication.proofs.laws.sent_is_taken.Goals as goal

pub returns : goal.returns
returns c = sent_taken c.grounds_stand.ensures c.items_are_near.ensures
