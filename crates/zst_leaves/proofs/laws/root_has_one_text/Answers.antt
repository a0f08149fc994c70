use Rattle.zst_leaves.proofs.LeavesRead.{HasLeaves-only}
use Rattle.zst_leaves.proofs.laws.root_has_one_text.Goals as goal

pub returns : goal.returns
returns c = HasLeaves-only
