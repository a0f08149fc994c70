use Rattle.zst_replication.proofs.FeedSequences.{kept_left}
use Rattle.zst_replication.proofs.laws.left_is_kept.Goals as goal

pub returns : goal.returns
returns c = kept_left
