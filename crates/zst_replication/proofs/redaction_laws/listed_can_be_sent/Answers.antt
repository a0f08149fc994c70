use Rattle.zst_replication.proofs.RedactedBases.{listed_within, plain_within, relay_within}
use Rattle.zst_replication.proofs.redaction_laws.listed_can_be_sent.Goals as goal

pub returns : goal.returns
returns c = record { listed = listed_within c.listed_may_be_redacted.ensures; plain = plain_within; relay = relay_within }
