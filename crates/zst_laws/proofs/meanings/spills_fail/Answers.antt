use Rattle.zst_laws.proofs.examples.Meanings.{spill_fails, spill_makes}
use Rattle.zst_laws.proofs.meanings.spills_fail.Goals as goal

pub returns : goal.returns
returns c = record { refused = spill_fails; made = spill_makes }
