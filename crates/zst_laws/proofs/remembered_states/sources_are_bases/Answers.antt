use Rattle.zst_laws.proofs.pools.SourceBases.{sources_bases}
use Rattle.zst_laws.proofs.remembered_states.sources_are_bases.Goals as goal

pub returns : goal.returns
returns c = sources_bases
