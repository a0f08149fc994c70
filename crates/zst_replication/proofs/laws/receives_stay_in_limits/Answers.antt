use Rattle.zst_replication.proofs.LimitedReceives.{receives_limited}
use Rattle.zst_replication.proofs.laws.receives_stay_in_limits.Goals as goal

pub returns : goal.returns
returns c = receives_limited
