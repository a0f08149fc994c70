use Rattle.zst_laws.proofs.examples.Meanings.{write_fails, write_makes}
use Rattle.zst_laws.proofs.meanings.writes_fail.Goals as goal

pub returns : goal.returns
returns c = record { refused = write_fails; made = write_makes }
