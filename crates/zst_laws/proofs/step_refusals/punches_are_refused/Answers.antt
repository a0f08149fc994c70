use Rattle.zst_laws.proofs.pools.StepRefusals.{punch_object, punch_far, punch_number}
use Rattle.zst_laws.proofs.step_refusals.punches_are_refused.Goals as goal

pub returns : goal.returns
returns c = record { object = punch_object; far = punch_far; number = punch_number }
