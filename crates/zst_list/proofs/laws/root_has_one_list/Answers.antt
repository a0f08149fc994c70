use Rattle.zst_list.proofs.OneList.{one_list}
use Rattle.zst_list.proofs.laws.root_has_one_list.Goals as goal

pub returns : goal.returns
returns c = one_list c.root_has_one_text.ensures
