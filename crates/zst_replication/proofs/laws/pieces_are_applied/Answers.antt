use Rattle.zst_replication.proofs.Pieces.{pieces_applied}
use Rattle.zst_replication.proofs.laws.pieces_are_applied.Goals as goal

pub returns : goal.returns
returns c = pieces_applied c.fronts_agree.ensures c.received_is_state.ensures.applied
