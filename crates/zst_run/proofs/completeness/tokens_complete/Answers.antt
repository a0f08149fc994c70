use Rattle.zst_run.proofs.CompleteRuns.{tokens_complete}
use Rattle.zst_run.proofs.completeness.tokens_complete.Goals as goal

pub returns : goal.returns
returns g c = λ here now. tokens_complete _ _
