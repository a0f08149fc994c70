use Rattle.zst_extents.proofs.OneSet.{one_set}
use Rattle.zst_extents.proofs.laws.root_has_one_set_of_extents.Goals as goal

pub returns : goal.returns
returns c = one_set c.root_has_one_text.ensures
