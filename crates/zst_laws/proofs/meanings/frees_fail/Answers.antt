use Rattle.zst_laws.proofs.examples.Meanings.{free_fails, free_makes}
use Rattle.zst_laws.proofs.meanings.frees_fail.Goals as goal

pub returns : goal.returns
returns c = record { refused = free_fails; made = free_makes }
