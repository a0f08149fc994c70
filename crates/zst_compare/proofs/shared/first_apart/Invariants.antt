use Rattle.std.proofs.Common.{◌≡◌, ◌<◌, ◌≤◌, ℕ}
use Rattle.zst_tree.specs.Indices.{child}
use Rattle.zst_compare.proofs.shared.first_apart.Given as goal

abbrev pub invariant-loop-k : goal.invariant-loop-k
invariant-loop-k l = (k : ℕ) → l.fn.from ≤ k → k < l.k → child l.one k ≡ child l.other k
