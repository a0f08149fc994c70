use Rattle.zst_laws.proofs.pools.KeptPools.{kept_lawful, kept_sound}
use Rattle.zst_laws.proofs.kept_pools.kept_are_lawful.Goals as goal

pub returns : goal.returns
returns c = record { lawful = kept_lawful; sound = kept_sound }
