-- A receive beside events of others.
use Rattle.std.proofs.Common.{◌≡◌, ℕ, List, [], Option, Some, sym, ◌∙◌}
use Rattle.std.proofs.lemmas.List.Elements.{All-contains}
use Rattle.std.specs.Prelude.{◌==◌}
use Rattle.zst_model.specs.declared.sends.header.Point.{Point}
use Rattle.zst_model.specs.pools.Pool.{Pool}
use Rattle.zst_model.specs.sends.Headers.{Sent}
use Rattle.zst_model.proofs.FoundElements.{found_passes}
use Rattle.zst_plan.specs.declared.receive.RecvAsk.{RecvAsk}
use Rattle.zst_recv.specs.ReceiveSteps.{Stage, Waits, Lives, Ends}
use Rattle.zst_replication.specs.Outcomes.{Course}
use Rattle.zst_stream.specs.Reading.{reading}
use Rattle.zst_sessions.specs.Lawfulness.{IsStanding, IsWorld, MovesKeepWorlds}
use Rattle.zst_sessions.specs.World.{OpenReceive, World, at_side, receive_with}
use Rattle.zst_interleaving.specs.Courses.{Begun, Beside, GoneOn, IsFrontOf, IsOnCourse, Waiting}
use Rattle.zst_interleaving.specs.Events.{EventsLeaveCourses}

module _ (sent also : Sent) (start : Option Point) (ask : RecvAsk) (course : Course) where
  abbrev StillWaits : List ℕ → Stage → Type 0
  StillWaits text Waits = IsFrontOf text also start × ((reading text).covered ≡ [])
  StillWaits text (Lives flags partial) = Unit {0}
  StillWaits text (Ends partial) = Unit {0}

  still_waits : (pool : Pool) (text : List ℕ) (stage : Stage) → IsOnCourse sent also start ask course pool text stage → StillWaits text stage
  still_waits _ _ _ (Waiting pool text front none) = (front, none)
  still_waits _ _ _ (Begun pool next text piece flags partial lawful none planned front e) = tt
  still_waits _ _ _ (GoneOn pool next text piece flags more partial further on front e) = tt
  still_waits _ _ _ (Beside pool other text flags partial on same) = tt

  beside : (stage : Stage) (pool other : Pool) (text : List ℕ) → IsOnCourse sent also start ask course pool text stage → IsStanding ask stage pool → IsStanding ask stage other
      → IsOnCourse sent also start ask course other text stage
  beside Waits pool other text on old new = let waits = still_waits pool text Waits on in Waiting other text waits.0 waits.1
  beside (Lives flags partial) pool other text on old new = Beside pool other text flags partial on (new ∙ sym old)
  beside (Ends partial) pool other text on old new = absurd new

-- what is open stands in its pool
pub stands_in : (world : World) (id : ℕ) (receive : OpenReceive) → IsWorld world → receive_with id world ≡ Some receive → IsStanding receive.ask receive.stage (at_side receive.side world).pool
stands_in world id receive is found =
    All-contains (λ (r : OpenReceive). IsStanding r.ask r.stage (at_side r.side world).pool) world.receives receive is.standing
    (found_passes (λ (r : OpenReceive). r.id == id) world.receives receive found).0

pub leave_courses : MovesKeepWorlds → EventsLeaveCourses
leave_courses keep now world next event answer id receive sent also start course moves is found left on =
    beside sent also start receive.ask course receive.stage (at_side receive.side world).pool (at_side receive.side next).pool receive.text on
    (stands_in world id receive is found) (stands_in next id receive (keep now world next event answer moves is) left)
