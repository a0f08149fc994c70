use Rattle.zst_replication.proofs.SendableStreams.{can_send}
use Rattle.zst_replication.proofs.laws.sent_can_be_sent.Goals as goal

pub returns : goal.returns
returns c = can_send c.plans_are_of_pool.ensures c.sends_are_stated.ensures.header c.sent_is_allowed.ensures c.payload_has_length.ensures
