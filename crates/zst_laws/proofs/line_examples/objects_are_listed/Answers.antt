use Rattle.zst_laws.proofs.examples.LineExamples.{objects_listed}
use Rattle.zst_laws.proofs.line_examples.objects_are_listed.Goals as goal

pub returns : goal.returns
returns c = objects_listed
