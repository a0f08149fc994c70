use Rattle.zst_laws.proofs.examples.Meanings.{snapshot_keeps_guids}
use Rattle.zst_laws.proofs.meanings.snapshots_keep_guids.Goals as goal

pub returns : goal.returns
returns c = snapshot_keeps_guids
