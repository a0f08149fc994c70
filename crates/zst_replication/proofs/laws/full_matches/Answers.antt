use Rattle.zst_replication.proofs.MatchingBases.{full_match}
use Rattle.zst_replication.proofs.laws.full_matches.Goals as goal

pub returns : goal.returns
returns c = full_match c.any_is_full_base.ensures
