use Rattle.zst_replication.proofs.Relays.{left_sent_on, relayed_received}
use Rattle.zst_replication.proofs.redaction_laws.relayed_is_received.Goals as goal

pub returns : goal.returns
returns c = record {
  left = left_sent_on;
  received = relayed_received c.plans_are_of_pool.ensures c.sent_can_be_sent.ensures c.sent_is_received.ensures;
}
