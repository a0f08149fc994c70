use Rattle.zst_replication.proofs.KeptReceives.{kept_as_asked, pieces_go_further}
use Rattle.zst_replication.proofs.feed_laws.pieces_are_kept.Goals as goal

pub returns : goal.returns
returns c = record {
  kept = kept_as_asked c.fronts_agree.ensures c.received_is_state.ensures.applied;
  further = pieces_go_further c.fronts_agree.ensures c.received_is_state.ensures.applied;
}
