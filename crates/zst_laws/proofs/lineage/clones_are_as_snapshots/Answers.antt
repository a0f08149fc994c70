use Rattle.zst_laws.proofs.pools.Lineages.{clone_makes}
use Rattle.zst_laws.proofs.lineage.clones_are_as_snapshots.Goals as goal

pub returns : goal.returns
returns c = clone_makes
