use Rattle.zst_run.proofs.PipedRuns.{remembered_so}
use Rattle.zst_run.proofs.replication.sources_still_remember.Goals as goal

pub returns : goal.returns
returns g c = λ there later. remembered_so c.receives_remember.ensures.sources _ _
