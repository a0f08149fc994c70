use Rattle.zst_reach.proofs.KeptSets.{SetHolds-kept, SetHoldsBut-kept, SetIsTight-kept}
use Rattle.zst_reach.proofs.laws.unreached_sectors_may_be_free.Goals as goal

pub returns-clause-holds : goal.returns-clause-holds
returns-clause-holds c = SetHolds-kept

pub returns-clause-tight : goal.returns-clause-tight
returns-clause-tight c = SetIsTight-kept

pub returns-clause-but : goal.returns-clause-but
returns-clause-but c = SetHoldsBut-kept
