use Rattle.zst_laws.proofs.examples.Meanings.{block_sizes}
use Rattle.zst_laws.proofs.meanings.block_sizes_are_multiples.Goals as goal

pub returns : goal.returns
returns c = block_sizes
