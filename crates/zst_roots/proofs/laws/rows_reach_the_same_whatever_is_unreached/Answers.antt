use Rattle.zst_roots.proofs.SparedRows.{RowsReach-spared}
use Rattle.zst_roots.proofs.laws.rows_reach_the_same_whatever_is_unreached.Goals as goal

pub returns : goal.returns
returns c = RowsReach-spared
