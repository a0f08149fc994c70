use Rattle.std.proofs.Common.{◌≡◌, ◌&&◌, take}
use Rattle.zst_model.specs.pools.Sessions.{has_named}
use Rattle.zst_sessions.specs.EngineSteps.{coded_hold}
use Rattle.zst_sessions.proofs.LeastSessions.{least_where}
use Rattle.zst_sessions.specs.World.{is_side}
use Rattle.zst_sessions.proofs.holders.least_send_with.Given as goal

abbrev pub invariant-loop-one : goal.invariant-loop-one
invariant-loop-one l = l.least ≡ least_where (λ one. one.id) (λ one. is_side one.side l.side && has_named l.name (coded_hold one)) (take l.one-index l.sends)
