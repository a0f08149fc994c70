use Rattle.zst_run.proofs.CompleteRuns.{steps_complete}
use Rattle.zst_run.proofs.completeness.steps_complete.Goals as goal

pub returns : goal.returns
returns g c = λ here now. steps_complete _ _
