use Rattle.zst_laws.proofs.pools.Redactions.{redact_makes}
use Rattle.zst_laws.proofs.redactions.redactions_list_what_none_keeps.Goals as goal

pub returns : goal.returns
returns c = redact_makes
