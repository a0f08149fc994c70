use Rattle.zst_laws.proofs.histories.Increments.{increment_exact}
use Rattle.zst_laws.proofs.commits.increment_is_exact.Goals as goal

pub returns : goal.returns
returns c = increment_exact
