use Rattle.zst_reach.proofs.SparedSectors.{ReachesInSet-spared, ReachesSector-spared}
use Rattle.zst_reach.proofs.laws.unreached_sectors_may_change.Goals as goal

pub returns-clause-blocks : goal.returns-clause-blocks
returns-clause-blocks c = ReachesSector-spared

pub returns-clause-sets : goal.returns-clause-sets
returns-clause-sets c = ReachesInSet-spared
