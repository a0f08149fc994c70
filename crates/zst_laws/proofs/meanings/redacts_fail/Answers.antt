use Rattle.zst_laws.proofs.examples.Meanings.{redact_fails, redact_makes}
use Rattle.zst_laws.proofs.meanings.redacts_fail.Goals as goal

pub returns : goal.returns
returns c = record { refused = redact_fails; made = redact_makes }
