use Rattle.zst_replication.proofs.FinishedReceives.{one_more_kept}
use Rattle.zst_replication.proofs.laws.one_more_is_kept.Goals as goal

pub returns : goal.returns
returns c = one_more_kept
