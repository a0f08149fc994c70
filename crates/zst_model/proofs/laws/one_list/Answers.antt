use Rattle.zst_model.proofs.OneList.{same_list}
use Rattle.zst_model.proofs.laws.one_list.Goals as goal

pub returns : goal.returns
returns c = same_list
