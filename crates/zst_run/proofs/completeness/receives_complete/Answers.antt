use Rattle.zst_run.proofs.CompleteRuns.{receives_complete}
use Rattle.zst_run.proofs.completeness.receives_complete.Goals as goal

pub returns : goal.returns
returns g c = λ here now. receives_complete _ _
