use Rattle.std.proofs.Common.{◌≡◌, ◌+◌, ◌-◌, ◌≤◌, nat_eq, length, drop}
use Rattle.std.specs.List.{common_prefix_len}
use Rattle.zst_token.proofs.parser.common_front.Given as goal

abbrev pub invariant-loop-place : goal.invariant-loop-place
invariant-loop-place l = record {
  inside : l.place ≤ length l.text;
  within : l.place ≤ length l.other;
  same : l.place + common_prefix_len nat_eq (drop l.place l.text) (drop l.place l.other) ≡ common_prefix_len nat_eq l.text l.other;
}

abbrev pub decreases-loop-place : goal.decreases-loop-place
decreases-loop-place l = length l.text - l.place
