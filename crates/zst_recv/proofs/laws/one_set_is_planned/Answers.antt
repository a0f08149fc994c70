use Rattle.zst_recv.proofs.PlannedSets.{dated_named, one_planned}
use Rattle.zst_recv.proofs.laws.one_set_is_planned.Goals as goal

pub returns : goal.returns
returns c = record { named = dated_named; one = one_planned }
