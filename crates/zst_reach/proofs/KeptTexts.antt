-- What stands in leaves stands there where sectors become free that the tree doesn't reach.
use Rattle.std.proofs.Common.{inl, inr, ℕ, zero, suc, ◌≡◌, ◌-◌, ◌<◌, List, ◌++◌, length, arith}
use Rattle.zst_bytes.specs.Fields.{zeros}
use Rattle.zst_space.specs.FreeSectors.{FreeSectors}
use Rattle.zst_space.specs.declared.space.Extent.{Extent}
use Rattle.zst_block.specs.Blocks.{Has, IsBlock}
use Rattle.zst_block.specs.declared.ptr.Ptr.{Ptr}
use Rattle.zst_extents.specs.StoredExtents.{HasExtents, extent_bytes}
use Rattle.zst_leaves.specs.Leaves.{HasLeaves, IsLeaf, LeavesBelow, bytes_below, part}
use Rattle.zst_list.specs.Spelling.{list_bytes}
use Rattle.zst_list.specs.StoredLists.{HasList}
use Rattle.zst_model.specs.fields.Lists.{Runs}
use Rattle.zst_tree.specs.Indices.{child}
use Rattle.zst_tree.proofs.SubtreeCases.{flat_kind}
use Rattle.zst_reach.specs.Reached.{ReachesSector}
use Rattle.zst_reach.proofs.KeptSets.{FreeBefore, Has-kept, kind_one}
use Rattle.zst_reach.proofs.ReachedLaws.{reach_child, reach_here}

module _ (image : List ℕ) (space more : FreeSectors) where
  leaf_kept : (ptr : Ptr) (text : List ℕ) → FreeBefore space more (ReachesSector (IsBlock image) 0 ptr) → IsLeaf (Has image space) ptr text → IsLeaf (Has image more) ptr text
  leaf_kept ptr text before leaf = record {
    there = Has-kept image space more ptr (text ++ zeros (8192 - length text)) leaf.there (λ sector of. before sector (reach_here (IsBlock image) 0 ptr sector (kind_one image space more ptr leaf.kind_is) of));
    kind_is = leaf.kind_is;
    level_is = leaf.level_is;
  }

  leaves_kept : (level : ℕ) (ptr : Ptr) (text : List ℕ) → LeavesBelow (Has image space) level ptr text → FreeBefore space more (ReachesSector (IsBlock image) level ptr) → LeavesBelow (Has image more) level ptr text
  unfolding LeavesBelow
  leaves_kept zero ptr text (inl hole) before = inl hole
  leaves_kept zero ptr text (inr (some, leaf)) before = inr (some, leaf_kept ptr text before leaf)
  leaves_kept (suc level) ptr text (inl hole) before = inl hole
  leaves_kept (suc level) ptr text (inr (some, (node, over, parts))) before =
      let inner = flat_kind ptr (inl over.kind_is) in
      let same : suc level - 1 ≡ level = omega arith in
      inr (
        some,
        (
          node,
          record { there = Has-kept image space more ptr node over.there (λ sector is. before sector (reach_here (IsBlock image) (suc level) ptr sector inner is)); long = over.long; kind_is = over.kind_is; level_is = over.level_is },
          λ k less. leaves_kept level (child node k) (part (bytes_below level) text k) (parts k less)
              (λ sector reached. before sector (reach_child (IsBlock image) (suc level) ptr node k sector (omega arith) inner over.there.block less (rw same reached))),
        ),
      )

  pub HasLeaves-kept : (levels : ℕ) (root : Ptr) (text : List ℕ) → FreeBefore space more (ReachesSector (IsBlock image) levels root) → HasLeaves (Has image space) levels root text → HasLeaves (Has image more) levels root text
  HasLeaves-kept levels root text before is = record { some = is.some; least = is.least; below = leaves_kept levels root text is.below before }

  -- a list of no runs stands nowhere
  pub HasList-kept : (levels : ℕ) (root : Ptr) (count : ℕ) (runs : Runs) → (0 < count → FreeBefore space more (ReachesSector (IsBlock image) levels root)) → HasList (Has image space) levels root count runs → HasList (Has image more) levels root count runs
  HasList-kept levels root count runs before is = record { lawful = is.lawful; count_is = is.count_is; leaves = λ some. HasLeaves-kept levels root (list_bytes runs) (before some) (is.leaves some) }

  pub HasExtents-kept : (levels : ℕ) (root : Ptr) (count : ℕ) (extents : List Extent) → (0 < count → FreeBefore space more (ReachesSector (IsBlock image) levels root)) → HasExtents (Has image space) levels root count extents → HasExtents (Has image more) levels root count extents
  HasExtents-kept levels root count extents before is = record { count_is = is.count_is; none = is.none; leaves = λ some. HasLeaves-kept levels root (extent_bytes extents) (before some) (is.leaves some) }
