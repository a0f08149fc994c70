-- Neighbouring blocks of an object that are written one after another.
use Rattle.std.specs.Prelude.{◌≡◌, ℕ, zero, suc, ◌+◌, ◌<◌, ◌≤◌, ◌*◌, ◌%◌, ◌^◌, length, List, [], ◌∷◌, take, drop, get_or, Result, Ok}
use Rattle.zst_model.specs.declared.refusals.refusal.Refusal.{Refusal}
use Rattle.zst_model.specs.states.AppliedItems.{◌>>=◌}
use Rattle.zst_model.specs.states.DatedState.{DatedState}
use Rattle.zst_model.specs.states.State.{Data}
use Rattle.zst_tree.specs.Indices.{Blocks, Map, TreeIs}
use Rattle.zst_tree.specs.Leaves.{with_leaves}
use Rattle.zst_tree.specs.declared.leaf_puts.Leaf.{Leaf}
use Rattle.zst_tree.specs.declared.tree.Tree.{Tree}
use Rattle.zst_objset.specs.Changes.{block_written}
use Rattle.zst_objset.specs.Dnodes.{BlockIs}

-- so many neighbouring blocks, of so many bytes each, from this index on: their bytes are so long, and they stand below one node of the object's tree
pub record IsBlockRun (index size count long : ℕ) : Type 0 where
  -- a node has 128 pointers
  pub group : index % 128 + count ≤ 128
  pub inside : index + count ≤ 2 ^ 43
  pub long_is : long ≡ count * size

-- a block of so many bytes is whole sectors, as a pointer can say
pub record IsWholeBlock (size : ℕ) : Type 0 where
  pub some : 0 < size
  pub whole : size % 512 ≡ 0
  pub small : size < 2 ^ 32

-- neighbouring whole blocks of so many bytes, written one after another
unfoldable pub blocks_written : (number k size count i : ℕ) → List ℕ → DatedState → Result DatedState Refusal
blocks_written number k size zero i bytes snap = Ok snap
blocks_written number k size (suc count) i bytes snap = block_written number k i (take size bytes) snap >>= blocks_written number k size count (i + 1) (drop size bytes)

-- a leaf names these bytes, which were written for an index in the commit of this number
pub record IsWritten (has : Blocks) (number i : ℕ) (bytes : List ℕ) (leaf : Leaf) : Type 0 where
  pub index_is : leaf.index ≡ i
  pub block : BlockIs has leaf.ptr (Data bytes)
  pub dated : leaf.ptr.number ≡ number

-- so do leaves, of neighbouring blocks of so many bytes
unfoldable pub AreWritten : Blocks → (number size i : ℕ) → List ℕ → List Leaf → Type 0
AreWritten has number size i bytes [] = Unit {0}
AreWritten has number size i bytes (leaf ∷ rest) = IsWritten has number i (take size bytes) leaf × AreWritten has number size (i + 1) (drop size bytes) rest

-- one of neighbouring blocks of so many bytes
abbrev pub block_of : ℕ → List ℕ → ℕ → List ℕ
block_of size bytes j = take size (drop (j * size) bytes)

-- so many first leaves name the blocks, which were written for indices from one on
abbrev pub AreSoFar : Blocks → (number size i : ℕ) → List ℕ → List Leaf → ℕ → Type 0
AreSoFar has number size i bytes leaves count = (j : ℕ) (d : Leaf) → j < count → IsWritten has number (i + j) (block_of size bytes j) (get_or leaves j d)

-- a tree has these neighbouring blocks, with this date, and else what a map has
pub record PutsBlocks (has : Blocks) (old : Map) (number size count i : ℕ) (bytes : List ℕ) (tree : Tree) : Type 0 where
  pub leaves : List Leaf
  pub long : length leaves ≡ count
  pub written : AreWritten has number size i bytes leaves
  pub tree_is : TreeIs has tree (with_leaves old leaves)
