use Rattle.std.proofs.Common.{◌≡◌, ◌*◌, ℕ, List, drop}
use Rattle.std.specs.Prelude.{All}
use Rattle.zst_space.specs.FreeSectors.{FreeSectors}
use Rattle.zst_block.specs.Blocks.{Has}
use Rattle.zst_tree.specs.Indices.{Map}
use Rattle.zst_tree.specs.Changes.{Parts}
use Rattle.zst_tree.specs.Leaves.{IsOf, with_leaves}
use Rattle.zst_tree.proofs.leaf_puts.put_each.Given as goal

-- the node has the leaves so far, and the map has them with the rest
abbrev pub invariant-loop-leaf : goal.invariant-loop-leaf
invariant-loop-leaf l = (image : List ℕ) (space : FreeSectors) (group : ℕ) (map : Map) → All (IsOf group) l.leaves → Parts (Has image space) 0 l.initial.node (128 * group) map
    → (so_far : Map) × (with_leaves so_far (drop l.leaf-index l.leaves) ≡ with_leaves map l.leaves) × Parts (Has image space) 0 l.node (128 * group) so_far
