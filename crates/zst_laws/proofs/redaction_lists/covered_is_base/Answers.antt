use Rattle.zst_laws.proofs.pools.CoveredBases.{covered_base}
use Rattle.zst_laws.proofs.redaction_lists.covered_is_base.Goals as goal

pub returns : goal.returns
returns c = covered_base
