-- Rows that stand for what a pool lists name it.
use Rattle.std.proofs.Common.{ℕ, Option}
use Rattle.zst_dir.specs.RowNames.{AreNamed, NamesBookmark, NamesDataset, NamesPartial, NamesSnapshot}
use Rattle.zst_dir.specs.Rows.{Rows}
use Rattle.zst_image.specs.Reads.{BookmarkIs, DatasetIs, PartialIs, RunsBy, SnapshotIs}
use Rattle.zst_image.proofs.Growth.{Match-weaker}
use Rattle.zst_model.specs.pools.Pool.{Pool}
use Rattle.zst_tree.specs.Indices.{Blocks}

-- the rows by which a pool runs name what it lists
pub rows_name : {bound : Option ℕ} (has : Blocks) (rows : Rows) (pool : Pool) → RunsBy bound has rows pool → AreNamed rows pool
rows_name {bound = bound} has rows pool runs = record {
  datasets = Match-weaker (DatasetIs bound has) NamesDataset (λ row dataset is. is.named) rows.datasets pool.datasets runs.datasets;
  snapshots = Match-weaker (SnapshotIs bound has) NamesSnapshot (λ row snapshot is. is.named) rows.snapshots pool.snapshots runs.snapshots;
  bookmarks = Match-weaker (BookmarkIs has) NamesBookmark (λ row bookmark is. is.named) rows.bookmarks pool.bookmarks runs.bookmarks;
  partials = Match-weaker (PartialIs bound has) NamesPartial (λ row partial is. is.named) rows.partials pool.partials runs.partials;
}
