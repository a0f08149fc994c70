use Rattle.std.specs.Prelude.{◌≡◌, ◌<◌, ℕ, slice_index_or}
use Rattle.zst_dir.specs.RowNames.{AreNamed}
use Rattle.zst_model.specs.pools.Pool.{Pool, Bookmark}
use Rattle.zst_model.specs.pools.Soundness.{IsBookmarkOf}
use Rattle.zst_check.proofs.bookmarks.misplaced_bookmark.Given as goal

-- the bookmarks that were looked at stand in their places
abbrev pub invariant-loop-row : goal.invariant-loop-row
invariant-loop-row l = (pool : Pool) → AreNamed l.dir pool → pool.number ≡ l.number → (k : ℕ) (d : Bookmark) → k < l.row-index → IsBookmarkOf pool (slice_index_or pool.bookmarks k d)
