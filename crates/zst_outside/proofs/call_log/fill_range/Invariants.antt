use Rattle.std.proofs.Common.{◌≡◌, ◌⊎◌, ℕ, ◌+◌, ◌<◌, ◌≤◌, length, get_or}
use Rattle.zst_outside.proofs.call_log.fill_range.Given as goal

abbrev pub invariant-loop-k : goal.invariant-loop-k
invariant-loop-k l = record {
  size : length l.bytes.items ≡ length l.initial.bytes.items;
  others : (j : ℕ) → (j < l.place) ⊎ (l.place + l.count ≤ j) → get_or l.bytes.items j 0 ≡ get_or l.initial.bytes.items j 0;
  filled : (j : ℕ) → l.place ≤ j → j < l.place + l.k → get_or l.bytes.items j 0 ≡ l.fill;
}
