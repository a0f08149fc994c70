use Rattle.zst_plan.proofs.AcceptedStreams.{begins}
use Rattle.zst_plan.proofs.laws.streams_are_accepted.Goals as goal

pub returns : goal.returns
returns c = begins
