use Rattle.zst_count.proofs.Counts.{count_is_one}
use Rattle.zst_count.proofs.laws.counts_are_one.Goals as goal

pub returns : goal.returns
returns c = count_is_one
