use Rattle.zst_laws.proofs.examples.StepExamples.{rewritten_step}
use Rattle.zst_laws.proofs.step_examples.rewritten_is_made.Goals as goal

pub returns : goal.returns
returns c = rewritten_step
