use Rattle.zst_laws.proofs.examples.Meanings.{ranges_date_blocks, freed_are_dated}
use Rattle.zst_laws.proofs.meanings.ranges_date_blocks.Goals as goal

pub returns : goal.returns
returns c = record { blocks = ranges_date_blocks; numbers = freed_are_dated }
