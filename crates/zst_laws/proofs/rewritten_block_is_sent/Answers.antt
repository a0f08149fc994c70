use Rattle.zst_laws.proofs.examples.FileExamples.{rewritten_items}
use Rattle.zst_laws.proofs.rewritten_block_is_sent.Goals as goal

pub returns : goal.returns
returns c = rewritten_items
