use Rattle.zst_plan.proofs.RefusedStreams.{base_redacted, name_taken, partials_full, targets_full, receives_full}
use Rattle.zst_plan.proofs.laws.based_streams_are_refused.Goals as goal

pub returns : goal.returns
returns c = record { outside = base_redacted; taken = name_taken; partials = partials_full; datasets = targets_full; snapshots = receives_full }
