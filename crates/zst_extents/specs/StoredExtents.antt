-- The free extents of a pool, as they stand in the leaves of a tree: 512 in each.
use Rattle.std.specs.Prelude.{◌≡◌, ℕ, ◌+◌, ◌*◌, ◌/◌, ◌<◌, ◌≤◌, nat_le, if◌then◌else◌, List, [], ◌∷◌, ◌++◌, length}
use Rattle.zst_bytes.specs.Words.{word}
use Rattle.zst_space.specs.FreeSectors.{FreeSectors}
use Rattle.zst_space.specs.TakenExtents.{without_blocks}
use Rattle.zst_space.specs.declared.space.Extent.{Extent}
use Rattle.zst_block.specs.Ptr.{hole_of}
use Rattle.zst_block.specs.declared.ptr.Ptr.{Ptr}
use Rattle.zst_tree.specs.Indices.{Blocks}
use Rattle.zst_leaves.specs.Leaves.{HasLeaves, blocks_for, leaves_for}

-- each extent as two words: its first sector, and how many sectors it has
unfoldable pub extent_bytes : List Extent → List ℕ
extent_bytes [] = []
extent_bytes (extent ∷ extents) = word extent.first ++ (word extent.count ++ extent_bytes extents)

-- so many extents stand in the leaves of a tree; where there are none, there is a hole
pub record HasExtents (has : Blocks) (levels : ℕ) (root : Ptr) (count : ℕ) (extents : List Extent) : Type 0 where
  pub count_is : length extents ≡ count
  pub none : count ≡ 0 → (levels ≡ 0) × (root ≡ hole_of 0)
  pub leaves : 0 < count → HasLeaves has levels root (extent_bytes extents)

-- how many blocks a tree of so many leaves has, up to 2,097,152: of one leaf none above it, and else a node above each 128 leaves, one above each 128 of these, and so on up to the root
abbrev pub tree_blocks : ℕ → ℕ
tree_blocks leaves =
    if nat_le leaves 1 then leaves else
    (if nat_le leaves 128 then leaves + 1 else
    (if nat_le leaves 16384 then leaves + (leaves + 127) / 128 + 1 else
    leaves + (leaves + 127) / 128 + (leaves + 16383) / 16384 + 1))

-- so many blocks so many extents take
abbrev pub extent_blocks : ℕ → ℕ
extent_blocks count = tree_blocks (leaves_for (16 * count))

-- the blocks of the tree over so many levels in which these extents stand were taken in turn, no more than as many extents take
pub record TakesTree (levels : ℕ) (extents : List Extent) (old new : FreeSectors) : Type 0 where
  pub after : new ≡ without_blocks (blocks_for levels (length (extent_bytes extents))) old
  pub few : blocks_for levels (length (extent_bytes extents)) ≤ extent_blocks (length extents)
