use Rattle.std.proofs.Common.{refl}
use Rattle.zst_recv.proofs.WriteRuns.{writes_none}
use Rattle.zst_recv.proofs.block_run.BlockRun.clear.Goals as goal

pub returns-clause-none : goal.returns-clause-none
returns-clause-none c = record { writes = writes_none _ _ _; count_is = refl }
