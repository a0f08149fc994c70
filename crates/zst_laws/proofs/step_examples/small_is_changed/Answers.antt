use Rattle.zst_laws.proofs.examples.StepExamples.{changed_steps, changed_reads}
use Rattle.zst_laws.proofs.step_examples.small_is_changed.Goals as goal

pub returns : goal.returns
returns c = record { commits = changed_steps; reads = changed_reads }
