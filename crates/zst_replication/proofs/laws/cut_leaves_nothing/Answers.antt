use Rattle.zst_replication.proofs.StoppedReceives.{cut_nothing}
use Rattle.zst_replication.proofs.laws.cut_leaves_nothing.Goals as goal

pub returns : goal.returns
returns c = cut_nothing
