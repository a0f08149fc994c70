use Rattle.zst_laws.proofs.pools.Reclaims.{reclaim_changes, reclaim_leaves}
use Rattle.zst_laws.proofs.reclaims.reclaimed_stay.Goals as goal

pub returns : goal.returns
returns c = record { made = reclaim_changes; values = reclaim_leaves }
