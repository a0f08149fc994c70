use Rattle.zst_laws.proofs.examples.FileExamples.{reallocated_items}
use Rattle.zst_laws.proofs.reallocated_holes_are_sent.Goals as goal

pub returns : goal.returns
returns c = reallocated_items
