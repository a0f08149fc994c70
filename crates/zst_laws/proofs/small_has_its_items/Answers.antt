use Rattle.zst_laws.proofs.examples.FileExamples.{small_items}
use Rattle.zst_laws.proofs.small_has_its_items.Goals as goal

pub returns : goal.returns
returns c = small_items
