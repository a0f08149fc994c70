use Rattle.zst_laws.proofs.pools.Lineages.{rollback_makes, rollback_wants}
use Rattle.zst_laws.proofs.lineage.heads_are_rolled_back.Goals as goal

pub returns : goal.returns
returns c = record { made = rollback_makes; newest = rollback_wants }
