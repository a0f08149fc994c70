-- What stands in leaves, put together and carried over.
use Rattle.std.proofs.Common.{◌≡◌, inl, inr, ℕ, zero, suc, ◌+◌, ◌-◌, ◌*◌, ◌/◌, ◌<◌, List, [], ◌∷◌, ◌++◌, length, replicate, drop, refl, sym, ◌∙◌, ap, subst, arith}
use Rattle.std.specs.Prelude.{Result, Ok, Err, IfOk}
use Rattle.std.proofs.lemmas.Bool.{cases_lt}
use Rattle.std.proofs.lemmas.List.{drop-replicate}
use Rattle.zst_bytes.specs.Bytes.{written}
use Rattle.zst_bytes.specs.Fields.{zeros}
use Rattle.zst_space.specs.FreeSectors.{FreeSectors, IsFree}
use Rattle.zst_space.specs.TakenExtents.{Takes}
use Rattle.zst_block.specs.Blocks.{Has, KeepsBlocks}
use Rattle.zst_block.specs.BlockWrites.{WritesBlock}
use Rattle.zst_block.specs.IoStates.{IoState}
use Rattle.zst_block.specs.Ptr.{hole_of}
use Rattle.zst_block.specs.declared.fault.BlockFault.{BlockFault}
use Rattle.zst_block.specs.declared.ptr.Ptr.{Ptr}
use Rattle.zst_tree.specs.Indices.{Blocks, child}
use Rattle.zst_tree.specs.Changes.{PutsChild}
use Rattle.zst_leaves.specs.Leaves.{AllFree, HasLeaves, IsLeaf, IsOver, Laid, LeavesBelow, bytes_below, part}

-- a text without bytes is none
pub none_of : (text : List ℕ) → length text ≡ 0 → text ≡ []
none_of [] none = refl
none_of (byte ∷ text) none = absurd (omega arith)

module _ (has : Blocks) where
  -- no text is below a hole
  pub hole_below : (level : ℕ) (ptr : Ptr) (text : List ℕ) → length text ≡ 0 → ptr ≡ hole_of 0 → LeavesBelow has level ptr text
  unfolding LeavesBelow
  hole_below zero ptr text none is = inl (none_of text none, is)
  hole_below (suc level) ptr text none is = inl (none_of text none, is)

  -- a leaf's text is below it
  pub leaf_below : (level : ℕ) (ptr : Ptr) (text : List ℕ) → level ≡ 0 → 0 < length text → IsLeaf has ptr text → LeavesBelow has level ptr text
  unfolding LeavesBelow
  leaf_below zero ptr text bottom some leaf = inr (some, leaf)
  leaf_below (suc level) ptr text bottom some leaf = absurd (omega arith)

  over_suc : (level : ℕ) (ptr : Ptr) (text node : List ℕ) → 0 < length text → IsOver has (suc level) ptr node → ((k : ℕ) → k < 128 → LeavesBelow has level (child node k) (part (bytes_below level) text k))
      → LeavesBelow has (suc level) ptr text
  unfolding LeavesBelow
  over_suc level ptr text node some over parts = inr (some, (node, over, parts))

  -- what is below a node's pointers is below it
  pub over_below : (level : ℕ) (ptr : Ptr) (text node : List ℕ) → 0 < level → 0 < length text → IsOver has level ptr node
      → ((k : ℕ) → k < 128 → LeavesBelow has (level - 1) (child node k) (part (bytes_below (level - 1)) text k)) → LeavesBelow has level ptr text
  over_below zero ptr text node inner some over parts = absurd (omega arith)
  over_below (suc level) ptr text node inner some over parts = let same : suc level - 1 ≡ level = omega arith in over_suc level ptr text node some over (rw same at parts)

-- what stands in leaves, taken apart
module _ (has : Blocks) where
  pub hole_of_none : (level : ℕ) (ptr : Ptr) (text : List ℕ) → length text ≡ 0 → LeavesBelow has level ptr text → ptr ≡ hole_of 0
  unfolding LeavesBelow
  hole_of_none zero ptr text none (inl hole) = hole.1
  hole_of_none zero ptr text none (inr leaf) = absurd (omega (arith, leaf.0))
  hole_of_none (suc level) ptr text none (inl hole) = hole.1
  hole_of_none (suc level) ptr text none (inr over) = absurd (omega (arith, over.0))

  leaf_zero : (ptr : Ptr) (text : List ℕ) → 0 < length text → LeavesBelow has 0 ptr text → IsLeaf has ptr text
  unfolding LeavesBelow
  leaf_zero ptr text some (inl hole) = absurd (omega (arith, ap (λ (l : List ℕ). length l) hole.0))
  leaf_zero ptr text some (inr leaf) = leaf.1

  pub leaf_of : (level : ℕ) (ptr : Ptr) (text : List ℕ) → level ≡ 0 → 0 < length text → LeavesBelow has level ptr text → IsLeaf has ptr text
  leaf_of level ptr text bottom some below = leaf_zero ptr text some (subst (λ (n : ℕ). LeavesBelow has n ptr text) bottom below)

  -- the node that a pointer names, and what stands below its pointers
  pub record OverBelow (level : ℕ) (ptr : Ptr) (text : List ℕ) : Type 0 where
    pub node : List ℕ
    pub over : IsOver has level ptr node
    pub parts : (k : ℕ) → k < 128 → LeavesBelow has (level - 1) (child node k) (part (bytes_below (level - 1)) text k)

  over_of_suc : (level : ℕ) (ptr : Ptr) (text : List ℕ) → 0 < length text → LeavesBelow has (suc level) ptr text → OverBelow (suc level) ptr text
  unfolding LeavesBelow
  over_of_suc level ptr text some (inl hole) = absurd (omega (arith, ap (λ (l : List ℕ). length l) hole.0))
  over_of_suc level ptr text some (inr (any, (node, over, parts))) =
      let same : suc level - 1 ≡ level = omega arith in
      record { node = node; over = over; parts = λ k less. rw same (parts k less) }

  pub over_of : (level : ℕ) (ptr : Ptr) (text : List ℕ) → 0 < level → 0 < length text → LeavesBelow has level ptr text → OverBelow level ptr text
  over_of zero ptr text inner some below = absurd (omega arith)
  over_of (suc level) ptr text inner some below = over_of_suc level ptr text some below

-- what stands in leaves stands there as long as its blocks are there
module _ (has more : Blocks) (up : (ptr : Ptr) (bytes : List ℕ) → has ptr bytes → more ptr bytes) where
  leaf_grows : (ptr : Ptr) (text : List ℕ) → IsLeaf has ptr text → IsLeaf more ptr text
  leaf_grows ptr text leaf = record { there = up ptr (text ++ zeros (8192 - length text)) leaf.there; kind_is = leaf.kind_is; level_is = leaf.level_is }

  pub IsOver-grows : (level : ℕ) (ptr : Ptr) (node : List ℕ) → IsOver has level ptr node → IsOver more level ptr node
  IsOver-grows level ptr node over = record { there = up ptr node over.there; long = over.long; kind_is = over.kind_is; level_is = over.level_is }

  pub LeavesBelow-grows : (level : ℕ) (ptr : Ptr) (text : List ℕ) → LeavesBelow has level ptr text → LeavesBelow more level ptr text
  unfolding LeavesBelow
  LeavesBelow-grows zero ptr text (inl none) = inl none
  LeavesBelow-grows zero ptr text (inr (some, leaf)) = inr (some, leaf_grows ptr text leaf)
  LeavesBelow-grows (suc level) ptr text (inl none) = inl none
  LeavesBelow-grows (suc level) ptr text (inr (some, (node, over, parts))) =
      inr (some, (node, IsOver-grows (suc level) ptr node over, λ k less. LeavesBelow-grows level (child node k) (part (bytes_below level) text k) (parts k less)))

  pub HasLeaves-grows : (levels : ℕ) (root : Ptr) (text : List ℕ) → HasLeaves has levels root text → HasLeaves more levels root text
  HasLeaves-grows levels root text is = record { some = is.some; least = is.least; below = LeavesBelow-grows levels root text is.below }

  -- one child more has its part below it
  pub child_more : (level size : ℕ) (text old new : List ℕ) (k : ℕ) (made : Ptr) → k < 128 → PutsChild old new k made → ((j : ℕ) → j < k → LeavesBelow has level (child old j) (part size text j))
      → LeavesBelow more level made (part size text k) → (j : ℕ) → j < k + 1 → LeavesBelow more level (child new j) (part size text j)
  child_more level size text old new k made less puts parts here j under = elim (cases_lt j k) [
    | inl before ↦ subst (λ (ptr : Ptr). LeavesBelow more level ptr (part size text j)) (sym (puts.others j (omega arith) (omega arith)).child_is)
        (LeavesBelow-grows level (child old j) (part size text j) (parts j before))
    | inr not_before ↦ (
        let same : j ≡ k = omega arith in
        subst (λ (n : ℕ). LeavesBelow more level (child new n) (part size text n)) (sym same)
        (subst (λ (ptr : Ptr). LeavesBelow more level ptr (part size text k)) (sym puts.here.child_is) here))
  ]

-- what was laid stays so as long as blocks are kept
pub laid_kept : (number : ℕ) (space : FreeSectors) (old : List ℕ) (mid : FreeSectors) (new : List ℕ) (less : FreeSectors) → KeepsBlocks old mid new less
    → (ptr : Ptr) (bytes : List ℕ) → Laid number space (Has old mid) ptr bytes → Laid number space (Has new less) ptr bytes
laid_kept number space old mid new less kept ptr bytes is = (kept ptr bytes is.0, is.1, is.2)

-- and stood in sectors that were free before too
pub laid_before : (number : ℕ) (space mid : FreeSectors) (has : Blocks) → ((sector : ℕ) → IsFree mid sector → IsFree space sector) → (ptr : Ptr) (bytes : List ℕ) → Laid number mid has ptr bytes → Laid number space has ptr bytes
laid_before number space mid has fewer ptr bytes is = (is.0, is.1, λ byte starts ends. fewer (byte / 512) (is.2 byte starts ends))

-- a text that was laid in leaves stands there
pub HasLeaves-laid : (number : ℕ) (space : FreeSectors) (has : Blocks) (levels : ℕ) (root : Ptr) (text : List ℕ) → HasLeaves (Laid number space has) levels root text → HasLeaves has levels root text
HasLeaves-laid number space has levels root text is = HasLeaves-grows (Laid number space has) has (λ ptr bytes laid. laid.0) levels root text is

-- a block is there by its pointer, whatever kind this has
of_kind : (image : List ℕ) (space : FreeSectors) (ptr : Ptr) (bytes : List ℕ) (kind : ℕ) → Has image space ptr bytes → Has image space (record ptr { kind = kind }) bytes
of_kind image space ptr bytes kind has = record {
  block = record { placed = record { whole = has.block.placed.whole; inside = has.block.placed.inside }; bytes_are = has.block.bytes_are; sum_is = has.block.sum_is };
  behind = has.behind;
  taken = has.taken;
}

-- the sectors that are taken were all free
taken_free : (old new : FreeSectors) (sector count long : ℕ) → long ≡ 512 * count → Takes old new sector count → AllFree old (512 * sector) long
taken_free old new sector count long whole takes = λ byte starts ends. takes.was_free (byte / 512) (omega arith, omega (arith, whole, ends))

-- a text at the front of zeros is a leaf's
filled : (text : List ℕ) → written 0 (length text) text (replicate 8192 0) ≡ text ++ zeros (8192 - length text)
unfolding written zeros
filled text = let same : 0 + length text ≡ length text = omega arith in ap (λ (rest : List ℕ). text ++ rest) (ap (λ (n : ℕ). drop n (replicate 8192 0)) same ∙ drop-replicate (length text) 8192 0)

-- a block of a tree that was written is laid
module _ (level number : ℕ) (old new : IoState) (bytes : List ℕ) (ptr : Ptr) (long : length bytes ≡ 8192) (block : WritesBlock bytes level number old new (Ok ptr)) where
  block_laid : Laid number old.space (Has new.disk.seen new.space) ptr bytes
  block_laid =
      let long_is : ptr.length ≡ length bytes = ap (λ (p : Ptr). p.length) block.pointer in
      (block.wrote, ap (λ (p : Ptr). p.number) block.pointer, taken_free old.space new.space ptr.sector (length bytes / 512) ptr.length (omega (arith, long, long_is)) block.takes)

  -- by a pointer of kind 3 it is a node over what its pointers name
  pub over_written : IsOver (Laid number old.space (Has new.disk.seen new.space)) level (record ptr { kind = 3 }) bytes
  over_written = record { there = (of_kind new.disk.seen new.space ptr bytes 3 block_laid.0, block_laid.1, block_laid.2); long = long; kind_is = refl; level_is = ap (λ (p : Ptr). p.level) block.pointer }

-- of a text it is a leaf
pub leaf_written : (number : ℕ) (old new : IoState) (text leaf : List ℕ) (result : Result Ptr BlockFault) → length leaf ≡ 8192 → leaf ≡ written 0 (length text) text (replicate 8192 0) → WritesBlock leaf 0 number old new result
    → IfOk result (λ ptr. IsLeaf (Laid number old.space (Has new.disk.seen new.space)) ptr text)
leaf_written number old new text leaf (Ok ptr) long is block = record {
  there = subst (λ (bytes : List ℕ). Laid number old.space (Has new.disk.seen new.space) ptr bytes) (is ∙ filled text) (block_laid 0 number old new leaf ptr long block);
  kind_is = ap (λ (p : Ptr). p.kind) block.pointer;
  level_is = ap (λ (p : Ptr). p.level) block.pointer;
}
leaf_written number old new text leaf (Err fault) long is block = tt
