use Rattle.std.proofs.Common.{◌≡◌, ℕ, ◌<◌, ◌≤◌, false}
use Rattle.zst_block.specs.Ptr.{is_present}
use Rattle.zst_tree.specs.Indices.{child}
use Rattle.zst_tree.proofs.present_indices.last_child.Given as goal

abbrev pub invariant-loop-left : goal.invariant-loop-left
invariant-loop-left l = record {
  left : l.left ≤ l.below;
  absent : (k : ℕ) → l.left ≤ k → k < l.below → is_present (child l.node k) ≡ false;
}

abbrev pub decreases-loop-left : goal.decreases-loop-left
decreases-loop-left l = l.left
