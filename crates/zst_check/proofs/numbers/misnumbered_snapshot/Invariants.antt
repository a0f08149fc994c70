use Rattle.std.specs.Prelude.{◌≡◌, ◌<◌, ℕ}
use Rattle.zst_dir.specs.RowNames.{AreNamed}
use Rattle.zst_model.specs.pools.Pool.{Pool}
use Rattle.zst_check.specs.NumberedPlaces.{IsNumberedAt}
use Rattle.zst_check.proofs.numbers.misnumbered_snapshot.Given as goal

-- the snapshots that were looked at are numbered in turn
abbrev pub invariant-loop-place : goal.invariant-loop-place
invariant-loop-place l = (pool : Pool) → AreNamed l.dir pool → pool.number ≡ l.number → (k : ℕ) → k < l.place → IsNumberedAt pool k
