use Rattle.zst_laws.proofs.pools.KeptPools.{keeping_done}
use Rattle.zst_laws.proofs.kept_pools.keeping_is_done.Goals as goal

pub returns : goal.returns
returns c = keeping_done
