use Rattle.zst_replication.proofs.ResumedReceives.{tokens_go_on}
use Rattle.zst_replication.proofs.laws.tokens_go_on.Goals as goal

pub returns : goal.returns
returns c = tokens_go_on
