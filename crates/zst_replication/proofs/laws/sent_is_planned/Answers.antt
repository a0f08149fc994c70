use Rattle.zst_replication.proofs.PlannedReceives.{full_planned, increment_planned}
use Rattle.zst_replication.proofs.laws.sent_is_planned.Goals as goal

pub returns : goal.returns
returns c = record { full = full_planned c.streams_are_accepted.ensures; increment = increment_planned c.streams_are_accepted.ensures }
