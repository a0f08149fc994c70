-- Leaves that indices are to have, one after another.
use Rattle.std.specs.Prelude.{◌≡◌, ℕ, ◌*◌, ◌+◌, ◌≤◌, ◌<◌, ◌==◌, true, List, [], ◌∷◌, if◌then◌else◌}
use Rattle.zst_block.specs.Ptr.{is_lawful}
use Rattle.zst_tree.specs.Indices.{Map}
use Rattle.zst_tree.specs.declared.leaf_puts.Leaf.{Leaf}

-- the map with this leaf at its index
unfoldable pub with_leaf : Map → Leaf → Map
with_leaf map leaf i = if i == leaf.index then leaf.ptr else map i

-- and with each of these, one after another
unfoldable pub with_leaves : Map → List Leaf → Map
with_leaves map [] = map
with_leaves map (leaf ∷ rest) = with_leaves (with_leaf map leaf) rest

-- a lawful leaf of one of the 128 indices that stand below one node: the group of this number
pub record IsOf (group : ℕ) (leaf : Leaf) : Type 0 where
  pub from : 128 * group ≤ leaf.index
  pub below : leaf.index < 128 * group + 128
  pub lawful : is_lawful leaf.ptr ≡ true
