use Rattle.zst_run.proofs.CompleteRuns as complete
use Rattle.zst_run.proofs.completeness.dumps_complete.Goals as goal

pub returns : goal.returns
returns c = complete.dumps_complete c.fronts_agree.ensures
