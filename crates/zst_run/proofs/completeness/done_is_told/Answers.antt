use Rattle.zst_run.proofs.CompleteRuns as complete
use Rattle.zst_run.proofs.completeness.done_is_told.Goals as goal

pub returns : goal.returns
returns c = complete.done_is_told
