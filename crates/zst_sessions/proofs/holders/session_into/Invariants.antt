use Rattle.std.proofs.Common.{◌≡◌, ◌&&◌, take}
use Rattle.zst_model.specs.pools.Sessions.{has_claimed}
use Rattle.zst_sessions.specs.EngineSteps.{coded_claim}
use Rattle.zst_sessions.proofs.LeastSessions.{least_where}
use Rattle.zst_sessions.specs.World.{is_side}
use Rattle.zst_sessions.proofs.holders.session_into.Given as goal

abbrev pub invariant-loop-one : goal.invariant-loop-one
invariant-loop-one l = l.least ≡ least_where (λ one. one.id) (λ one. is_side one.side l.side && has_claimed l.target (coded_claim one)) (take l.one-index l.receives)
