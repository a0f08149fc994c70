use Rattle.zst_laws.proofs.examples.LineageExamples.{clone_holds}
use Rattle.zst_laws.proofs.lineage_examples.clone_holds_origin.Goals as goal

pub returns : goal.returns
returns c = clone_holds
