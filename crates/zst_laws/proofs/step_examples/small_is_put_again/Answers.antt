use Rattle.zst_laws.proofs.examples.StepExamples.{put_steps}
use Rattle.zst_laws.proofs.step_examples.small_is_put_again.Goals as goal

pub returns : goal.returns
returns c = put_steps
