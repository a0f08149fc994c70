-- What putting a run behind all pairs makes of a list.
use Rattle.std.specs.Prelude.{◌≡◌, ℕ, suc, ◌+◌, ◌≤◌, Bool, true, false, [], ◌∷◌, length, ◌==◌, ◌&&◌, ◌||◌}
use Rattle.zst_model.specs.declared.states.cell.Run.{Run}
use Rattle.zst_model.specs.fields.Lists.{Runs, has_pair, is_in_run}
use Rattle.zst_model.specs.pools.Limits.{most_runs}

-- a run ends at a pair: that stands behind its last
abbrev pub ends_at : Run → ℕ → ℕ → Bool
ends_at run k i = run.object == k && run.first + run.count == i

-- the last of some runs does
abbrev pub last_ends_at : Runs → ℕ → ℕ → Bool
last_ends_at [] k i = false
last_ends_at (run ∷ []) k i = ends_at run k i
last_ends_at (run ∷ next ∷ rest) k i = last_ends_at (next ∷ rest) k i

-- a list is as it was, since it has as many runs as it may, and none that the pair would lengthen
pub record IsFull (old new : Runs) (k i : ℕ) : Type 0 where
  pub same : new ≡ old
  pub many : most_runs ≤ length old
  pub alone : (j : ℕ) → suc j ≡ i → has_pair old k j ≡ false

-- a list has the pairs of this run too and no others more, or it is full
abbrev pub PushesRun : Runs → Runs → Run → Bool → Type 0
PushesRun old new run true = (l j : ℕ) → has_pair new l j ≡ (has_pair old l j || is_in_run run l j)
PushesRun old new run false = IsFull old new run.object run.first
