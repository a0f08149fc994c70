use Rattle.zst_run.proofs.CompleteRuns.{creates_complete}
use Rattle.zst_run.proofs.completeness.creates_complete.Goals as goal

pub returns : goal.returns
returns g c = λ here now. creates_complete _ _
