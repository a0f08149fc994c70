use Rattle.zst_stream.proofs.CheckedOutcomes.{ends-checked}
use Rattle.zst_stream.proofs.outcomes_are_checked.Goals as goal

pub returns : goal.returns
returns c = ends-checked
