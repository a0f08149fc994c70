use Rattle.zst_laws.proofs.pools.Lineages.{dataset_goes, snapshot_goes, bookmark_goes}
use Rattle.zst_laws.proofs.lineage.destroyed_go_alone.Goals as goal

pub returns : goal.returns
returns c = record { dataset = dataset_goes; snapshot = snapshot_goes; bookmark = bookmark_goes }
