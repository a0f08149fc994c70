use Rattle.zst_laws.proofs.pools.SourceBases.{remembered_base}
use Rattle.zst_laws.proofs.remembered_states.remembered_is_base.Goals as goal

pub returns : goal.returns
returns c = remembered_base
