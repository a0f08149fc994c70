-- What a call that writes leaves does.
use Rattle.std.specs.Prelude.{◌≡◌, ℕ, ◌+◌, ◌*◌, ◌≤◌, List, length, OnOk, Result, Err}
use Rattle.zst_space.specs.FreeSectors.{FreeSectors}
use Rattle.zst_space.specs.TakenExtents.{without_blocks}
use Rattle.zst_block.specs.IoStates.{IoState}
use Rattle.zst_block.specs.IoCalls.{Works, stop_of}
use Rattle.zst_block.specs.declared.fault.BlockFault.{BlockFault}
use Rattle.zst_block.specs.declared.fault.BlockFault.TheVariants.{Damaged}
use Rattle.zst_tree.specs.Indices.{Blocks}
use Rattle.zst_tree.specs.declared.tree.Tree.{Tree}
use Rattle.zst_leaves.specs.Leaves.{HasLeaves, Laid, blocks_for}

-- so many blocks of a tree are written at most, and where the call ends well their sectors are taken in turn
pub record WritesBlocks {T : Type 0} (count : ℕ) (old new : IoState) (result : Result T BlockFault) : Type 0 where
  pub works : Works (16 * count) 16 old new (stop_of result)
  pub after : OnOk result (new.space ≡ without_blocks count old.space)
  -- nothing is read
  pub never_damaged : (sector : ℕ) (stated found : List ℕ) → ¬ (result ≡ Err (Damaged sector stated found))
  pub calls : new.disk.calls ≤ old.disk.calls + count

-- a text stands in the leaves of a tree, for which so many blocks are taken in turn
pub record WritesLeaves (number : ℕ) (has : Blocks) (text : List ℕ) (old new : FreeSectors) (tree : Tree) : Type 0 where
  -- each pointer to a leaf or a node has the number, and what it names was written into sectors that were free
  pub laid : HasLeaves (Laid number old has) tree.levels tree.root text
  pub past : tree.past ≡ 0
  pub after : new ≡ without_blocks (blocks_for tree.levels (length text)) old
