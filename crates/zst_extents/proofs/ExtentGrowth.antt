-- Extents that stand over some blocks stand over more.
use Rattle.std.proofs.Common.{ℕ, List}
use Rattle.zst_space.specs.declared.space.Extent.{Extent}
use Rattle.zst_block.specs.declared.ptr.Ptr.{Ptr}
use Rattle.zst_tree.specs.Indices.{Blocks}
use Rattle.zst_leaves.proofs.LeavesLaws.{HasLeaves-grows}
use Rattle.zst_extents.specs.StoredExtents.{HasExtents, extent_bytes}

pub HasExtents-grows : (has more : Blocks) → ((ptr : Ptr) (bytes : List ℕ) → has ptr bytes → more ptr bytes) → (levels : ℕ) (root : Ptr) (count : ℕ) (extents : List Extent) → HasExtents has levels root count extents
    → HasExtents more levels root count extents
HasExtents-grows has more up levels root count extents is = record { count_is = is.count_is; none = is.none; leaves = λ some. HasLeaves-grows has more up levels root (extent_bytes extents) (is.leaves some) }
