use Rattle.zst_laws.proofs.examples.LineExamples.{pool_listed}
use Rattle.zst_laws.proofs.line_examples.pool_is_listed.Goals as goal

pub returns : goal.returns
returns c = pool_listed
