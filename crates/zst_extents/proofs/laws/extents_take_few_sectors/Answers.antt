use Rattle.zst_extents.proofs.TreeBlocks.{few_by_count}
use Rattle.zst_extents.proofs.laws.extents_take_few_sectors.Goals as goal

pub returns : goal.returns
returns c = few_by_count
