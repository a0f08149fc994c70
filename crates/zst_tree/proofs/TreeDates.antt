-- No date of a changed tree is later than those of what it held, and of what was put into it.
use Rattle.std.proofs.Common.{inl, inr, ⊎_elim, ℕ, zero, suc, ◌+◌, ◌*◌, ◌≤◌, sym, subst, arith}
use Rattle.std.proofs.lemmas.Bool.{cases_lt}
use Rattle.zst_block.specs.declared.ptr.Ptr.{Ptr}
use Rattle.zst_tree.specs.declared.tree.Tree.{Tree}
use Rattle.zst_tree.specs.Changes.{TreeDatedUpTo}
use Rattle.zst_tree.specs.Indices.{Blocks, Map, Stands, Subtree, child, span}
use Rattle.zst_tree.proofs.QuietRanges.{greatest-least, quiet_below}
use Rattle.zst_tree.proofs.Span.{span-pos}
use Rattle.zst_tree.proofs.TreeMaps.{over, over_before, over_behind, over_in, over_on, over_on-before, over_on-in}

-- each index is dated up to a number
abbrev pub AllUpTo : ℕ → Map → Type 0
AllUpTo bound map = (i : ℕ) → (map i).number ≤ bound

module _ (has : Blocks) (bound : ℕ) where
  -- a pointer's number is no later than all below it
  pub below_dated : (level : ℕ) (ptr : Ptr) (base : ℕ) (map : Map) → AllUpTo bound map → Subtree has level ptr base map → ptr.number ≤ bound
  unfolding Subtree
  below_dated zero ptr base map all is = subst (λ (p : Ptr). p.number ≤ bound) is.1 (all base)
  below_dated (suc level) ptr base map all (inl flat) = subst (λ (p : Ptr). p.number ≤ bound) (flat.2.is base (omega arith) (omega (arith, span-pos (suc level)))) (all base)
  below_dated (suc level) ptr base map all (inr (bytes, node, below)) =
      omega (arith, node.number_is, greatest-least bytes 128 bound (λ k less. below_dated level (child bytes k) (base + k * span level) map all (below k less)))

  -- what a tree stands for is dated up to a number where the tree is
  pub all_dated : (tree : Tree) (whole : Map) → Stands has tree whole → TreeDatedUpTo bound tree → AllUpTo bound whole
  all_dated tree whole stands dated i = ⊎_elim
      (λ inside. (quiet_below whole bound has tree.levels tree.root 0 dated.1 stands.below).early i (omega arith) (omega (arith, inside)))
      (λ behind. subst (λ (p : Ptr). p.number ≤ bound) (sym (stands.past i behind)) dated.0) (cases_lt i (span tree.levels))

  -- and so is its date past its span
  pub past_dated : (tree : Tree) (whole : Map) → Stands has tree whole → AllUpTo bound whole → tree.past ≤ bound
  past_dated tree whole stands all = subst (λ (p : Ptr). p.number ≤ bound) (stands.past (span tree.levels) (omega arith)) (all (span tree.levels))

-- a map with a leaf in a range
pub over_dated : (bound : ℕ) (map : Map) (from below : ℕ) (leaf : Ptr) → leaf.number ≤ bound → AllUpTo bound map → AllUpTo bound (over map from below leaf)
over_dated bound map from below leaf early all i = ⊎_elim
    (λ before. subst (λ (p : Ptr). p.number ≤ bound) (sym (over_before map from below leaf i before)) (all i))
    (λ over. ⊎_elim
    (λ inside. subst (λ (p : Ptr). p.number ≤ bound) (sym (over_in map from below leaf i over inside)) early)
    (λ behind. subst (λ (p : Ptr). p.number ≤ bound) (sym (over_behind map from below leaf i behind)) (all i)) (cases_lt i below)) (cases_lt i from)

pub over_on-dated : (bound : ℕ) (map : Map) (from : ℕ) (leaf : Ptr) → leaf.number ≤ bound → AllUpTo bound map → AllUpTo bound (over_on map from leaf)
over_on-dated bound map from leaf early all i = ⊎_elim
    (λ before. subst (λ (p : Ptr). p.number ≤ bound) (sym (over_on-before map from leaf i before)) (all i))
    (λ over. subst (λ (p : Ptr). p.number ≤ bound) (sym (over_on-in map from leaf i over)) early) (cases_lt i from)
