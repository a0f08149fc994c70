use Rattle.zst_laws.proofs.pools.Aborts.{nothing_to_abort, only_nothing, abort_number}
use Rattle.zst_laws.proofs.aborts.aborts_are_refused.Goals as goal

pub returns : goal.returns
returns c = record { absent = nothing_to_abort; only = only_nothing; number = abort_number }
