use Rattle.zst_laws.proofs.examples.FileExamples.{distant_items}
use Rattle.zst_laws.proofs.distant_block_has_one_hole.Goals as goal

pub returns : goal.returns
returns c = distant_items
