use Rattle.zst_replication.proofs.MatchingBases.{bases_matched}
use Rattle.zst_replication.proofs.laws.bases_match.Goals as goal

pub returns : goal.returns
returns c = bases_matched c.any_is_full_base.ensures c.remembered_is_base.ensures c.plans_are_of_pool.ensures
