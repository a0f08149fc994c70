use Rattle.std.proofs.Common.{ℕ, ◌<◌, get_or}
use Rattle.std.specs.Prelude.{None}
use Rattle.zst_block.specs.IoStates.{IsHonest, blocks_of, io_of}
use Rattle.zst_block.specs.IoCalls.{Looks}
use Rattle.zst_image.specs.Reads.{RunsBy}
use Rattle.zst_model.specs.pools.Pool.{Bookmark, IsPool, Pool}
use Rattle.zst_model.specs.pools.Soundness.{Sound}
use Rattle.zst_check.specs.Redactions.{IsListed}
use Rattle.zst_check.proofs.lists.differing_list.Given as goal

-- the bookmarks so far list what they should
abbrev pub invariant-loop-row : goal.invariant-loop-row
invariant-loop-row g l = record {
  listed : (pool : Pool) → IsHonest l.io → RunsBy None (blocks_of l.fn.io) l.dir pool → IsPool pool → Sound pool → (k : ℕ) (d : Bookmark) → k < l.row-index → IsListed pool (get_or pool.bookmarks k d);
  looks : Looks (io_of l.fn.io) (io_of l.io) None;
}
