use Rattle.zst_laws.proofs.examples.CommandExamples.{object_replaced}
use Rattle.zst_laws.proofs.command_examples.object_is_replaced.Goals as goal

pub returns : goal.returns
returns c = object_replaced
