use Rattle.zst_laws.proofs.sends.Walk.{block_next}
use Rattle.zst_laws.proofs.block_is_next.Goals as goal

pub returns : goal.returns
returns c = block_next
