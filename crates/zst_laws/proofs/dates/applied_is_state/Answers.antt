use Rattle.zst_laws.proofs.histories.Dates.{applied_state}
use Rattle.zst_laws.proofs.dates.applied_is_state.Goals as goal

pub returns : goal.returns
returns c = applied_state
