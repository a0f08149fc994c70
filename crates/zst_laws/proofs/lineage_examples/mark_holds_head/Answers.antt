use Rattle.zst_laws.proofs.examples.LineageExamples.{mark_holds}
use Rattle.zst_laws.proofs.lineage_examples.mark_holds_head.Goals as goal

pub returns : goal.returns
returns c = mark_holds
