-- What a look-up of an index gives.
use Rattle.std.specs.Prelude.{◌≡◌, ◌⊎◌, ℕ, zero, suc, ◌+◌, ◌-◌, ◌/◌, ◌%◌, ◌^◌, ◌<◌, ◌≤◌, List, true}
use Rattle.zst_block.specs.Ptr.{hole_of, is_flat}
use Rattle.zst_block.specs.declared.ptr.Ptr.{Ptr}
use Rattle.zst_tree.specs.Indices.{Blocks, Map, span, child, IsNode}
use Rattle.zst_tree.specs.declared.tree.Tree.{Tree}

-- the pointer that stands for an offset below a pointer, and for how many offsets from it on: a flat pointer for what is left of its span, a leaf for itself
unfoldable pub Finds : Blocks → ℕ → Ptr → ℕ → (Ptr × ℕ) → Type 0
Finds has zero ptr offset found = found ≡ (ptr, 1)
Finds has (suc level) ptr offset found =
    ((is_flat ptr ≡ true) × (found ≡ (ptr, span (suc level) - offset)))
    ⊎ ((bytes : List ℕ) × IsNode has (suc level) ptr bytes × Finds has level (child bytes (offset / span level)) (offset % span level) found)

-- the same for an index of a tree: past its span a hole stands for what is left up to 2^44
pub record FindsIn (has : Blocks) (tree : Tree) (index : ℕ) (found : Ptr × ℕ) : Type 0 where
  pub inside : index < span tree.levels → Finds has tree.levels tree.root index found
  pub past : span tree.levels ≤ index → found ≡ (hole_of tree.past, 2 ^ 44 - index)

-- an index has this pointer, and so have the next ones, as many as are told
pub record Shows (map : Map) (from : ℕ) (shown : Ptr × ℕ) : Type 0 where
  pub some : 0 < shown.1
  pub same : (index : ℕ) → from ≤ index → index < from + shown.1 → index < 2 ^ 44 → map index ≡ shown.0
