-- What a tree holds it holds as long as its blocks are there.
use Rattle.std.proofs.Common.{inl, inr, ℕ, zero, suc, ◌+◌, ◌*◌, List}
use Rattle.zst_block.specs.declared.ptr.Ptr.{Ptr}
use Rattle.zst_tree.specs.declared.tree.Tree.{Tree}
use Rattle.zst_tree.specs.Indices.{Blocks, Map, Subtree, Stands, TreeIs, child, span}

module _ (has more : Blocks) (up : (ptr : Ptr) (bytes : List ℕ) → has ptr bytes → more ptr bytes) where
  pub Subtree-grows : (level : ℕ) (ptr : Ptr) (base : ℕ) (map : Map) → Subtree has level ptr base map → Subtree more level ptr base map
  unfolding Subtree
  Subtree-grows zero ptr base map is = is
  Subtree-grows (suc level) ptr base map (inl flat) = inl flat
  Subtree-grows (suc level) ptr base map (inr (bytes, node, below)) = inr (
    bytes,
    record { there = up ptr bytes node.there; pointers = node.pointers; level_is = node.level_is; kind_is = node.kind_is; number_is = node.number_is },
    λ k less. Subtree-grows level (child bytes k) (base + k * span level) map (below k less),
  )

  pub Stands-grows : (tree : Tree) (whole : Map) → Stands has tree whole → Stands more tree whole
  Stands-grows tree whole is = record { below = Subtree-grows tree.levels tree.root 0 whole is.below; past = is.past }

  pub TreeIs-grows : (tree : Tree) (map : Map) → TreeIs has tree map → TreeIs more tree map
  TreeIs-grows tree map is = record { whole = is.whole; stands = Stands-grows tree is.whole is.stands; agrees = is.agrees }
