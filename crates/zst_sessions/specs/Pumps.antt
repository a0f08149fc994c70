-- What a feed makes of what the engine keeps, whatever the images are.
use Rattle.std.specs.Prelude.{◌≡◌, ◌||◌, ◌<◌, ◌+◌, ◌++◌, IsTrue, ℕ, Bool, true, false, List, length, take, set, get_or, Result, Ok, Err, if◌then◌else◌}
use Rattle.std.specs.List.{remove}
use Rattle.std.specs.Option.{option_map_or}
use Rattle.zst_outside.specs.Images.{Leaves}
use Rattle.zst_outside.specs.declared.disk.Disk.{Ghosts}
use Rattle.zst_space.specs.FreeSectors.{FreeSectors}
use Rattle.zst_block.specs.Blocks.{Has}
use Rattle.zst_block.specs.IoCalls.{HasCause, fails}
use Rattle.zst_image.specs.Bodies.{free_by}
use Rattle.zst_image.specs.Reads.{Reads, bound_of}
use Rattle.zst_image.specs.declared.pool_state.PoolState.{PoolState}
use Rattle.zst_model.specs.declared.refusals.faults.Quantity.TheVariants.{Stream}
use Rattle.zst_model.specs.declared.refusals.plan_fault.PlanFault.TheVariants.{Limit}
use Rattle.zst_model.specs.declared.refusals.refusal.Refusal.{Refusal}
use Rattle.zst_model.specs.pools.Pool.{Pool}
use Rattle.zst_pool.specs.Calls.{IsAtRest}
use Rattle.zst_pool.specs.declared.fault.PoolFault.TheVariants as pools
use Rattle.zst_reader.specs.InputReads.{stream_limit}
use Rattle.zst_recv.specs.Answers.{Feeds, goes_on}
use Rattle.zst_recv.specs.Costs.{CostsPiece}
use Rattle.zst_recv.specs.Faults.{recv_refusal, stop_of}
use Rattle.zst_recv.specs.FedReceives.{LeavesReceive}
use Rattle.zst_recv.specs.Feeds.{new_records}
use Rattle.zst_recv.specs.GoingOn.{IsRow}
use Rattle.zst_recv.specs.ReceiveSteps.{Stage}
use Rattle.zst_recv.specs.Stages.{Receives, ask_of, fed_of, received_by, stage_of}
use Rattle.zst_recv.specs.declared.fault.RecvFault.{RecvFault}
use Rattle.zst_recv.specs.declared.fault.RecvFault.TheVariants as faults
use Rattle.zst_recv.specs.declared.recv.FeedReport.{FeedReport}
use Rattle.zst_recv.specs.declared.recv.Recv.{Recv}
use Rattle.zst_script.specs.declared.event.Side.{Side}
use Rattle.zst_script.specs.declared.event.Side.TheVariants.{Here, There}
use Rattle.zst_sessions.specs.Engines.{Kept}
use Rattle.zst_sessions.specs.EngineSteps.{IsLaterPool, KeepsSessions, kept_pool}
use Rattle.zst_sessions.specs.FullPools.{WasFed}
use Rattle.zst_sessions.specs.LostDisks.{ReadsAsOne}
use Rattle.zst_sessions.specs.declared.engine.Engine.{Engine}
use Rattle.zst_sessions.specs.declared.event_reply.EventReply.{EventReply}
use Rattle.zst_sessions.specs.declared.event_reply.EventReply.TheVariants.{Pumped}
use Rattle.zst_sessions.specs.declared.event_reply.Standing.{Standing}
use Rattle.zst_sessions.specs.declared.event_reply.Standing.TheVariants as standings
use Rattle.zst_sessions.specs.declared.open_sessions.OpenReceive.{OpenReceive}

-- ---- the reply

-- where a receive stands behind a feed: its point, or the guid of the snapshot that it made
abbrev pub standing_of : FeedReport → ℕ → Standing
standing_of report guid = if report.done then standings.Done guid else standings.Point report.point

-- the guid of the snapshot that a receive made
abbrev pub guid_of : Recv → ℕ
guid_of recv = option_map_or (λ made. made.guid) (received_by recv) 0

-- the reply of a pump that took so many bytes, or the refusal of its feed
abbrev pub fed_reply : ℕ → Recv → Result FeedReport RecvFault → Result EventReply Refusal
fed_reply taken recv (Ok report) = Ok (Pumped taken report.applied (standing_of report (guid_of recv)))
fed_reply taken recv (Err fault) = Err (recv_refusal fault)

-- ---- the receives

-- the receives once that at a place was fed: it stands there as it goes on, and one that is over has left
abbrev pub settled : Bool → ℕ → OpenReceive → List OpenReceive → List OpenReceive
settled true place one receives = set receives place one
settled false place one receives = remove receives place

-- ---- a feed

-- why a stream that would be longer than one may be is refused: E23
abbrev pub too_long : RecvFault
too_long = faults.Pool (pools.Plan (Limit Stream stream_limit))

-- A receive of a pool was fed a piece.
pub record FeedsKept (old new : Kept) (before after : Recv) (piece : List ℕ) (result : Result FeedReport RecvFault) : Type 0 where
  -- where its disk works and told the truth: what the definition makes of the pool that runs and of the receive, at every moment and in the end
  pub feeds : (running : Pool) (text : List ℕ) (stage : Stage) → new.disk.honest → old.failed ≡ false → IsAtRest true old.disk old.state running
      → Receives (bound_of true running.number) (Has old.disk.seen (free_by old.state.body)) before text stage → Feeds true old.disk new.disk new.state after text piece stage running result
  -- a stream that would be too long is refused before all else, and nothing is written
  pub long : old.failed ≡ false → stream_limit < fed_of before + length piece → (result ≡ Err too_long) × Leaves old.disk new.disk (λ c. ⊥)
  -- whatever the image, the disk has failed now where it had, or where the feed stopped at that
  pub failed : new.failed ≡ (old.failed || fails (stop_of result))
  pub cause : HasCause old.disk.faults new.disk.faults (stop_of result)
  pub open_still : old.failed ≡ false → ¬ (result ≡ Err (faults.Pool pools.Failed))
  -- a disk that failed in between two pools reads as one of them
  pub lost : (one other : Pool) → Leaves old.disk new.disk (ReadsAsOne true one other) → ((c : List ℕ) → old.disk.images c → Reads true one c) → IsTrue new.tells → ReadsAsOne true one other new.disk.seen
  -- other sessions see nothing of it, and where it goes on its partial state is the row of its target
  pub keeps : KeepsSessions (λ target. target ≡ (ask_of before).target) old new
  pub own : goes_on result ≡ true → IsRow old.state.dir (ask_of before).target (stage_of before) → IsRow new.state.dir (ask_of before).target (stage_of after)
  pub receive : LeavesReceive new.state.dir piece before after result

-- What a feed of a piece reads and costs behind each text that the receive was fed, whatever the image is: E24 comes only where the piece is short of sectors; and where it goes on it was fed the piece too.
pub record FeedReads (before after : Recv) (piece : List ℕ) (old new : PoolState) (left : FreeSectors) (result : Result FeedReport RecvFault) : Type 0 where
  pub costs : (text : List ℕ) → WasFed before text → CostsPiece (new_records text piece) old new left result
  pub fed : (text : List ℕ) → WasFed before text → goes_on result ≡ true → WasFed after (text ++ piece)

module _ {D E : Type 0} {g : Ghosts D} {h : Ghosts E} where
  -- a receive of one of the engine's pools was fed a piece, and the other pool is as it was
  abbrev pub FeedsSide : Side → Engine D E g h → Engine D E g h → Recv → Recv → List ℕ → Result FeedReport RecvFault → Type 0
  FeedsSide Here old new before after piece result =
      FeedsKept (kept_pool old.here) (kept_pool new.here) before after piece result × IsLaterPool old.here new.here × (new.there ≡ old.there)
      × FeedReads before after piece old.here.kept new.here.kept new.here.io.space result
  FeedsSide There old new before after piece result =
      FeedsKept (kept_pool old.there) (kept_pool new.there) before after piece result × IsLaterPool old.there new.there × (new.here ≡ old.here)
      × FeedReads before after piece old.there.kept new.there.kept new.there.io.space result

  -- The receive at a place was fed the first bytes of the room, and it and its pool alone have changed.
  pub record FeedsOne (place count : ℕ) (old new : Engine D E g h) (one : OpenReceive) (after : Recv) (result : Result FeedReport RecvFault) : Type 0 where
    pub is_there : get_or old.receives.items place one ≡ one
    pub feeds : FeedsSide one.side old new one.recv after (take count old.room.items) result
    pub sends : new.sends ≡ old.sends
    pub room : new.room ≡ old.room
    pub time : new.now ≡ old.now

  -- so that it is still in its place
  pub record FeedsAt (place count : ℕ) (old new : Engine D E g h) (result : Result FeedReport RecvFault) : Type 0 where
    pub one : OpenReceive
    pub after : Recv
    pub feeds : FeedsOne place count old new one after result
    pub receives : new.receives.items ≡ set old.receives.items place (record one { recv = after })

  -- and so that it has left where it is over
  pub record SettlesFeed (place count : ℕ) (old new : Engine D E g h) (result : Result EventReply Refusal) : Type 0 where
    pub one : OpenReceive
    pub after : Recv
    pub fed : Result FeedReport RecvFault
    pub feeds : FeedsOne place count old new one after fed
    pub receives : new.receives.items ≡ settled (goes_on fed) place (record one { recv = after }) old.receives.items
    pub reply : result ≡ fed_reply count after fed
