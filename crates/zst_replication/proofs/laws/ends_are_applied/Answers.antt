use Rattle.zst_replication.proofs.EndedReceives.{ends_applied}
use Rattle.zst_replication.proofs.laws.ends_are_applied.Goals as goal

pub returns : goal.returns
returns c = ends_applied c.fronts_agree.ensures c.received_is_state.ensures.applied
