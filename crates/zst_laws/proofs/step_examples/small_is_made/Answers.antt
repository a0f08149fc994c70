use Rattle.zst_laws.proofs.examples.StepExamples.{small_steps}
use Rattle.zst_laws.proofs.step_examples.small_is_made.Goals as goal

pub returns : goal.returns
returns c = small_steps
