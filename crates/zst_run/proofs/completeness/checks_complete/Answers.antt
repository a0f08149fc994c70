use Rattle.zst_run.proofs.CompleteRuns as complete
use Rattle.zst_run.proofs.completeness.checks_complete.Goals as goal

pub returns : goal.returns
returns g c = λ here now. complete.checks_complete c.no_report_is_both.ensures _ _
