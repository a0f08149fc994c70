use Rattle.zst_run.proofs.CompleteRuns.{sends_complete}
use Rattle.zst_run.proofs.completeness.sends_complete.Goals as goal

pub returns : goal.returns
returns g c = λ here now. sends_complete _ _
