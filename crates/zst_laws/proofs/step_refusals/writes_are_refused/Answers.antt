use Rattle.zst_laws.proofs.pools.StepRefusals.{write_object, write_long, write_odd, write_far, write_number, odd_sizes}
use Rattle.zst_laws.proofs.step_refusals.writes_are_refused.Goals as goal

pub returns : goal.returns
returns c = record { object = write_object; long = write_long; odd = write_odd; far = write_far; number = write_number; sizes = odd_sizes }
