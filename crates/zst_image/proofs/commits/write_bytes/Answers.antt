use Rattle.std.proofs.Common.{ℕ, ◌<◌, ◌≤◌, ◌*◌, length, arith}
use Rattle.std.specs.Prelude.{Option}
use Rattle.zst_block.specs.IoCalls.{Works}
use Rattle.zst_block.specs.IoStates.{IoState}
use Rattle.zst_block.specs.declared.fault.BlockFault.{BlockFault}
use Rattle.zst_block.proofs.IoCallLemmas.{Works-more}
use Rattle.zst_leaves.specs.Leaves.{IsLeast, blocks_for, leaves_for}
use Rattle.zst_extents.specs.StoredExtents.{tree_blocks}
use Rattle.zst_extents.proofs.TreeBlocks.{by_level, least_levels}
use Rattle.zst_image.proofs.commits.write_bytes.Goals as goal

-- by the levels that have room for it no more blocks are written than a tree of its leaves has
by_leaves : (long : ℕ) (old new : IoState) (stop : Option BlockFault) → 0 < long → long ≤ 134217728 → ((levels : ℕ) → IsLeast levels long → Works (16 * blocks_for levels long) 16 old new stop) → Works (16 * tree_blocks (leaves_for long)) 16 old new stop
by_leaves long old new stop some small exact =
    let least = least_levels long (omega (arith, small)) in
    Works-more (omega (arith, by_level least.0 long least.1 some)) (exact least.0 least.1)

pub returns-in-Ok-clause-blocks : goal.returns-in-Ok-clause-blocks
returns-in-Ok-clause-blocks g c = by_leaves (length c.args.bytes.now) _ _ _ c.requires.some (omega (arith, c.requires.few)) c.in-Ok.ensures.exact

pub returns-in-Err-Full-clause-blocks : goal.returns-in-Err-Full-clause-blocks
returns-in-Err-Full-clause-blocks g c = by_leaves (length c.args.bytes.now) _ _ _ c.requires.some (omega (arith, c.requires.few)) (rw c.in-Err-Full.field-0-is at c.in-Err-Full.ensures.exact)

pub returns-in-Err-DiskFault-clause-blocks : goal.returns-in-Err-DiskFault-clause-blocks
returns-in-Err-DiskFault-clause-blocks g c = by_leaves (length c.args.bytes.now) _ _ _ c.requires.some (omega (arith, c.requires.few)) (rw c.in-Err-DiskFault.field-0-is at c.in-Err-DiskFault.ensures.exact)
