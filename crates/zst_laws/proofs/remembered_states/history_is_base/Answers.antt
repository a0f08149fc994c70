use Rattle.zst_laws.proofs.pools.SourceBases.{history_base}
use Rattle.zst_laws.proofs.remembered_states.history_is_base.Goals as goal

pub returns : goal.returns
returns c = history_base
