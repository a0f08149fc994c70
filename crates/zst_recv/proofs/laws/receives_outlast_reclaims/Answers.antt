use Rattle.zst_recv.proofs.OutlastedReclaims.{receives_outlast}
use Rattle.zst_recv.proofs.laws.receives_outlast_reclaims.Goals as goal

pub returns : goal.returns
returns c = receives_outlast
