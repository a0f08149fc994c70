use Rattle.zst_laws.proofs.examples.Meanings.{datasets_stand, snapshots_stand}
use Rattle.zst_laws.proofs.meanings.rows_stand_in_order.Goals as goal

pub returns : goal.returns
returns c = record { datasets = datasets_stand; snapshots = snapshots_stand }
