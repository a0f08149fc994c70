use Rattle.zst_replication.proofs.Chains.{chains_complete, chains_underway}
use Rattle.zst_replication.proofs.laws.chains_complete.Goals as goal

pub returns : goal.returns
returns c = record {
  underway = chains_underway c.stops_are_progress.ensures c.resumed_stops_are_progress.ensures;
  complete = chains_complete c.stops_are_progress.ensures c.resumed_stops_are_progress.ensures c.rest_is_received.ensures.sent;
}
