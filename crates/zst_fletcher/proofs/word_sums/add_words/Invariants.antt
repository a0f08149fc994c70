use Rattle.std.proofs.Common.{◌≡◌, ◌++◌, List, ℕ, ◌*◌, take}
use Rattle.zst_fletcher.specs.WeightSum.{weight_sum, IsWhole}
use Rattle.zst_fletcher.proofs.word_sums.add_words.Given as goal

-- the words so far were added
abbrev pub invariant-loop-i : goal.invariant-loop-i
invariant-loop-i l = (before : List ℕ) → IsWhole before → l.fn.sum ≡ weight_sum before → l.sums ≡ weight_sum (before ++ take (4 * l.i) l.bytes)
