-- The laws of lawful pools while receives and other events move them.
use Rattle.std.specs.Prelude.{ℕ, ◌++◌, List, IfSome}
use Rattle.zst_names.specs.Names.{IsDataset, IsSnapshot}
use Rattle.zst_model.specs.pools.Pool.{Pool, IsPool}
use Rattle.zst_model.specs.states.State.{AreBytes}
use Rattle.zst_plan.specs.declared.receive.RecvAsk.{RecvAsk}
use Rattle.zst_recv.specs.ReceiveSteps.{Stage, pool_of}
use Rattle.zst_sessions.specs.Lawfulness.{IsStanding}
use Rattle.zst_sessions.specs.Moves.{feeding}

-- what is asked for has names, as lines have them
pub record IsAsk (ask : RecvAsk) : Type 0 where
  pub target : IsDataset ask.target
  pub snapshot : IfSome ask.snap IsSnapshot

-- A feed of bytes leaves a lawful pool lawful, however it ends.
abbrev pub FeedsKeepLawful : Type 0
FeedsKeepLawful =
    (ask : RecvAsk) (text piece : List ℕ) (stage : Stage) (pool : Pool)
    → IsAsk ask → AreBytes (text ++ piece) → IsPool pool → IsStanding ask stage pool → IsPool (pool_of (feeding ask text piece stage pool))
