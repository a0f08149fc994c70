use Rattle.zst_laws.proofs.pools.StepRefusals.{number_far, numbers_far, object_number, free_number}
use Rattle.zst_laws.proofs.step_refusals.numbers_are_refused.Goals as goal

pub returns : goal.returns
returns c = record { object = number_far; free = numbers_far; object_number = object_number; free_number = free_number }
