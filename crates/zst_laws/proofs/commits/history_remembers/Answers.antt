use Rattle.zst_laws.proofs.histories.Increments.{history_remembered}
use Rattle.zst_laws.proofs.commits.history_remembers.Goals as goal

pub returns : goal.returns
returns c = history_remembered
