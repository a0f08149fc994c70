use Rattle.zst_laws.proofs.examples.Meanings.{volume_is_made}
use Rattle.zst_laws.proofs.meanings.volumes_are_made.Goals as goal

pub returns : goal.returns
returns c = volume_is_made
