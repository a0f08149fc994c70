use Rattle.zst_laws.proofs.pools.CoveredBases.{listed_may}
use Rattle.zst_laws.proofs.redaction_lists.listed_may_be_redacted.Goals as goal

pub returns : goal.returns
returns c = listed_may
