use Rattle.std.specs.Prelude.{◌≡◌}
use Rattle.zst_dir.specs.RowNames.{AreNamed, NamesSnapshot}
use Rattle.zst_model.specs.pools.Ancestry as plain
use Rattle.zst_model.specs.pools.Pool.{Pool, Snapshot}
use Rattle.zst_model.specs.sends.SendPlan.{comes_before}
use Rattle.zst_plan.specs.Sources.{NamesSource}
use Rattle.zst_plan.proofs.origin_walk.comes_before.Given as goal

-- the row that the walk has come to names a snapshot, and the source stands before the first where it stands before this one
abbrev pub invariant-loop-origin : goal.invariant-loop-origin
invariant-loop-origin l = (pool : Pool) (from : plain.Source) (to : Snapshot) → AreNamed l.dir pool → NamesSource l.source from → NamesSnapshot l.initial.later to
    → (later : Snapshot) × NamesSnapshot l.later later × (comes_before pool from to ≡ comes_before pool from later)

abbrev pub decreases-loop-origin : goal.decreases-loop-origin
decreases-loop-origin l = l.later.number
