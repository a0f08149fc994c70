use Rattle.zst_laws.proofs.pools.Aborts.{aborted_goes, abort_leaves}
use Rattle.zst_laws.proofs.aborts.aborted_go_alone.Goals as goal

pub returns : goal.returns
returns c = record { made = aborted_goes; values = abort_leaves }
