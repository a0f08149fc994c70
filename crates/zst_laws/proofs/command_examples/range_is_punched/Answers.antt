use Rattle.zst_laws.proofs.examples.CommandExamples.{range_punched}
use Rattle.zst_laws.proofs.command_examples.range_is_punched.Goals as goal

pub returns : goal.returns
returns c = range_punched
