use Rattle.std.proofs.Common.{ℕ, ◌+◌, ◌*◌, ◌≤◌, length, arith}
use Rattle.std.proofs.lemmas.Result.{err_from_is_err_and}
use Rattle.zst_block.specs.IoStates.{blocks_of, disk_of}
use Rattle.zst_block.proofs.BlocksLaws.{KeepsBlocks-fills}
use Rattle.zst_block.proofs.IoCallLemmas.{Works-more, Works-then}
use Rattle.zst_leaves.specs.Leaves.{Laid, blocks_for}
use Rattle.zst_leaves.proofs.LeavesLaws.{HasLeaves-grows, laid_before, laid_kept}
use Rattle.zst_leaves.proofs.TakenBlocks.{blocks_then}
use Rattle.zst_extents.specs.StoredExtents.{extent_bytes}
use Rattle.zst_extents.proofs.ExtentGrowth.{HasExtents-grows}
use Rattle.zst_extents.proofs.TreeBlocks.{by_level}
use Rattle.zst_image.proofs.freed_commits.write_texts.Goals as goal

pub returns-in-Ok-clause-written : goal.returns-in-Ok-clause-written
returns-in-Ok-clause-written g c =
    let number = c.args.number in
    let bytes = c.args.bytes.now in
    let mid = c.write_bytes.new.io in
    let new = c.write_unmarked.new.io in
    let space = c.args.io.now.space in
    let tree = c.in_ok-tree.tree in
    let stored = c.in-Ok.stored in
    let first = c.in_ok-tree.ensures.written in
    let keeps = KeepsBlocks-fills (disk_of mid) (disk_of new) mid.space new.space c.in-Ok.ensures.works.fills in
    let fewer = c.in_ok-tree.ensures.works.fills.fewer in
    record {
      directory = HasLeaves-grows (Laid number space (blocks_of mid)) (Laid number space (blocks_of new)) (laid_kept number space (disk_of mid).seen mid.space (disk_of new).seen new.space keeps) tree.levels tree.root bytes first.laid;
      extents = HasExtents-grows (Laid number mid.space (blocks_of new)) (Laid number space (blocks_of new)) (laid_before number space mid.space (blocks_of new) fewer) stored.levels stored.root stored.count c.args.free.now c.in-Ok.ensures.there;
      taken = blocks_for tree.levels (length bytes) + blocks_for stored.levels (length (extent_bytes c.args.free.now));
      after = blocks_then (blocks_for tree.levels (length bytes)) _ space mid.space new.space first.after c.in-Ok.ensures.after.after;
      few = omega (arith, by_level tree.levels (length bytes) first.laid.least c.requires.some, c.in-Ok.ensures.after.few);
    }

-- the blocks of the directory alone, and those of both
first_of : (directory extents : ℕ) → 16 * directory ≤ 16 * (directory + extents)
first_of directory extents = omega arith

sum_of : (directory extents : ℕ) → 16 * directory + 16 * extents ≤ 16 * (directory + extents)
sum_of directory extents = omega arith

pub returns-in_err-tree-clause-works : goal.returns-in_err-tree-clause-works
returns-in_err-tree-clause-works g c =
    let p = err_from_is_err_and c.from_residual.result c.from_residual.ensures.1 in
    rw (p.1, p.2) (Works-more (first_of _ _) c.in_err-tree.ensures.blocks)

pub returns-in-Ok-clause-works : goal.returns-in-Ok-clause-works
returns-in-Ok-clause-works g c = Works-more (sum_of _ _) (Works-then c.in_ok-tree.ensures.blocks c.in-Ok.ensures.works)

pub returns-in-Err-clause-works : goal.returns-in-Err-clause-works
returns-in-Err-clause-works g c = rw c.of_extents.ensures (Works-more (sum_of _ _) (Works-then c.in_ok-tree.ensures.blocks c.in-Err.ensures.works))
