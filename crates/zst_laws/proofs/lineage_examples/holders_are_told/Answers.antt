use Rattle.zst_laws.proofs.examples.LineageExamples.{holders_told}
use Rattle.zst_laws.proofs.lineage_examples.holders_are_told.Goals as goal

pub returns : goal.returns
returns c = holders_told
