use Rattle.zst_laws.proofs.pools.Reclaims.{reclaim_number}
use Rattle.zst_laws.proofs.reclaims.reclaims_are_refused.Goals as goal

pub returns : goal.returns
returns c = reclaim_number
