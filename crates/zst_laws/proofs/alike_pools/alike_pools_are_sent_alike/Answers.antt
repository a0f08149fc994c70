use Rattle.zst_laws.proofs.pools.AlikePools.{alike_sent}
use Rattle.zst_laws.proofs.alike_pools.alike_pools_are_sent_alike.Goals as goal

pub returns : goal.returns
returns c = alike_sent
