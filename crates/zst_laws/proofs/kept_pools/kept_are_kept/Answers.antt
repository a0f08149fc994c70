use Rattle.zst_laws.proofs.pools.KeptPools.{two_kept, kept_are_kept}
use Rattle.zst_laws.proofs.kept_pools.kept_are_kept.Goals as goal

pub returns : goal.returns
returns c = record { values = two_kept; exact = kept_are_kept }
