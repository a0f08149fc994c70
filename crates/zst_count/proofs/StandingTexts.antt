-- Texts whose leaves are read as data of 8192 bytes.
use Rattle.std.proofs.Common.{◌≡◌, inl, inr, ℕ, zero, suc, ◌-◌, ◌≤◌, List, ◌++◌, length, length-append, refl, sym, ◌∙◌, arith}
use Rattle.std.specs.Prelude.{Some}
use Rattle.zst_bytes.specs.Fields.{zeros}
use Rattle.zst_bytes.proofs.FieldsLaws.{length-zeros}
use Rattle.zst_space.specs.FreeSectors.{FreeSectors}
use Rattle.zst_block.specs.Blocks.{Has}
use Rattle.zst_block.specs.Ptr.{hole_of}
use Rattle.zst_block.specs.declared.ptr.Ptr.{Ptr}
use Rattle.zst_block.proofs.BlocksLaws.{IsBlock-length}
use Rattle.zst_leaves.specs.Leaves.{HasLeaves, IsLeaf, LeavesBelow, bytes_below, part}
use Rattle.zst_leaves.proofs.TextParts.{length-part}
use Rattle.zst_tree.specs.Indices.{child, span}
use Rattle.zst_count.specs.StandingData.{DataStand, IsDataThere}
use Rattle.zst_count.proofs.StandingData.{DataStand-below}

span_zero : span 0 ≡ 1
unfolding span
span_zero = refl

module _ (image : List ℕ) (space : FreeSectors) where
  -- a leaf of a text is data
  text_leaf : (ptr : Ptr) (text : List ℕ) → length text ≤ 8192 → IsLeaf (Has image space) ptr text → IsDataThere (Has image space) 8192 ptr
  text_leaf ptr text fits leaf = record {
    kind = leaf.kind_is;
    size =
        let long = IsBlock-length image ptr (text ++ zeros (8192 - length text)) leaf.there.block in
        omega (arith, long, length-append text (zeros (8192 - length text)), length-zeros (8192 - length text), fits);
    bytes = text ++ zeros (8192 - length text);
    there = leaf.there;
  }

  -- a hole has nothing to be read
  flat_hole : (level : ℕ) (ptr : Ptr) → ptr ≡ hole_of 0 → DataStand (Has image space) (Some 8192) level ptr
  unfolding DataStand
  flat_hole zero ptr hole = inl (rw hole refl)
  flat_hole (suc level) ptr hole = inl (rw hole refl)

  -- a text below a pointer, which has room there
  text_below : (level : ℕ) (ptr : Ptr) (text : List ℕ) → length text ≤ bytes_below level → LeavesBelow (Has image space) level ptr text → DataStand (Has image space) (Some 8192) level ptr
  unfolding LeavesBelow DataStand
  text_below zero ptr text fits (inl hole) = flat_hole 0 ptr hole.1
  text_below zero ptr text fits (inr leaf) = inr (text_leaf ptr text (omega (arith, fits, span_zero)) leaf.1)
  text_below (suc level) ptr text fits (inl hole) = flat_hole (suc level) ptr hole.1
  text_below (suc level) ptr text fits (inr (some, (node, over, parts))) =
      inr (
        record { kind = inl over.kind_is; level_is = over.level_is; length_is = sym (IsBlock-length image ptr node over.there.block) ∙ over.long },
        (node, over.there, λ k less. DataStand-below (Has image space) (Some 8192) (suc level) k level (child node k) (text_below level (child node k) (part (bytes_below level) text k) (omega (arith, length-part (bytes_below level) text k)) (parts k less))),
      )

  -- a text in its leaves stands so
  pub HasLeaves-data : (levels : ℕ) (root : Ptr) (text : List ℕ) → HasLeaves (Has image space) levels root text → DataStand (Has image space) (Some 8192) levels root
  HasLeaves-data levels root text is = text_below levels root text is.least.enough is.below
