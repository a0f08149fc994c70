use Rattle.std.proofs.Common.{◌<◌, ℕ, length}
use Rattle.std.specs.List.{All, Contains}
use Rattle.zst_roots.proofs.turns.turns_of.Given as goal

-- each snapshot so far has a turn, and each turn is a snapshot's
abbrev pub invariant-loop-place : goal.invariant-loop-place
invariant-loop-place l = record {
  each : (place : ℕ) → place < l.place → (number : ℕ) × Contains l.turns.items (number, place);
  inside : All (λ (turn : ℕ × ℕ). turn.1 < length l.rows) l.turns.items;
}
