use Rattle.zst_plan.proofs.AcceptedStreams.{go_on, only_goes_on}
use Rattle.zst_plan.proofs.laws.resumed_streams_are_accepted.Goals as goal

pub returns : goal.returns
returns c = record { goes_on = go_on; only = only_goes_on }
