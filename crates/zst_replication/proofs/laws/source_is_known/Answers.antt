use Rattle.zst_replication.proofs.MatchingBases.{source_known}
use Rattle.zst_replication.proofs.laws.source_is_known.Goals as goal

pub returns : goal.returns
returns c = source_known c.own_is_remembered.ensures.own
