use Rattle.zst_count.proofs.FirstSectors.{counted_are_reached, reached_are_counted}
use Rattle.zst_count.proofs.laws.counted_blocks_are_reached.Goals as goal

pub returns : goal.returns
returns c = record { reached = counted_are_reached; counted = reached_are_counted }
