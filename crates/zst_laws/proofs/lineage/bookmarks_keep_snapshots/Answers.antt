use Rattle.zst_laws.proofs.pools.Lineages.{bookmark_makes}
use Rattle.zst_laws.proofs.lineage.bookmarks_keep_snapshots.Goals as goal

pub returns : goal.returns
returns c = bookmark_makes
