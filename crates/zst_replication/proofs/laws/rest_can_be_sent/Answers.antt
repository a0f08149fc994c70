use Rattle.zst_replication.proofs.SendableStreams.{rest_can_send}
use Rattle.zst_replication.proofs.laws.rest_can_be_sent.Goals as goal

pub returns : goal.returns
returns c = rest_can_send c.sends_are_stated.ensures.header c.sent_is_allowed.ensures c.payload_has_length.ensures
