use Rattle.zst_laws.proofs.examples.HeaderExamples.{choices}
use Rattle.zst_laws.proofs.headers.choices_are_exact.Goals as goal

pub returns : goal.returns
returns c = choices
