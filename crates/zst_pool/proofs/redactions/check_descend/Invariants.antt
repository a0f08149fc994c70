use Rattle.std.proofs.Common.{◌≡◌, ℕ, ◌<◌, true, List, get_or}
use Rattle.zst_model.specs.pools.Pool.{Pool, Snapshot}
use Rattle.zst_dir.specs.RowNames.{AreNamed, NamesSnapshot}
use Rattle.zst_pool.specs.Redactions.{comes_after}
use Rattle.zst_pool.proofs.redactions.check_descend.Given as goal

-- the snapshot stands before each of those so far
abbrev pub invariant-loop-name : goal.invariant-loop-name
invariant-loop-name l = (pool : Pool) (taken : Snapshot) → AreNamed l.dir pool → NamesSnapshot l.row taken → (j : ℕ) (d : List ℕ) → j < l.name-index → comes_after pool taken (get_or l.names j d) ≡ true
