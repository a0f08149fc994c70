-- How a session is opened: what is begun on one pool, why it isn't, and what the engine then keeps.
use Rattle.std.specs.Prelude.{◌≡◌, ◌||◌, ◌==◌, ◌++◌, ℕ, Bool, true, false, nat_lt, List, [], ◌∷◌, length, Option, Some, None, Result, Ok, Err, IfOk, if◌then◌else◌}
use Rattle.std.specs.List.{list_any}
use Rattle.zst_outside.specs.declared.disk.Disk.{Ghosts}
use Rattle.zst_block.specs.Blocks.{Has}
use Rattle.zst_dir.specs.RowNames.{AreNamed}
use Rattle.zst_image.specs.Bodies.{free_by}
use Rattle.zst_model.specs.declared.refusals.faults.Quantity.TheVariants as quantities
use Rattle.zst_model.specs.declared.refusals.plan_fault.PlanFault.{PlanFault}
use Rattle.zst_model.specs.declared.refusals.refusal.Refusal.{Refusal}
use Rattle.zst_model.specs.declared.refusals.refusal.Refusal.TheVariants as refusals
use Rattle.zst_model.specs.declared.sends.header.Point.{Point}
use Rattle.zst_model.specs.pools.Pool.{Pool as Plain}
use Rattle.zst_model.specs.pools.Sessions.{busy_session, lesser, session_into}
use Rattle.zst_model.specs.sends.Headers.{Sent}
use Rattle.zst_pool.specs.Calls.{IsAtRest}
use Rattle.zst_pool.specs.declared.fault.PoolFault.{PoolFault}
use Rattle.zst_pool.specs.declared.fault.PoolFault.TheVariants.{Plan, CannotApply, Redacted, Full, Damaged, DiskFault, Failed, OutOfMemory}
use Rattle.zst_recv.specs.Tokens.{token_told}
use Rattle.zst_script.specs.declared.event.Side.{Side}
use Rattle.zst_script.specs.declared.event.Side.TheVariants.{Here, There}
use Rattle.zst_send.specs.Sends.{SendFits, SendsFrom, begun_text}
use Rattle.zst_token.specs.declared.token.Token.{Token}
use Rattle.zst_tree.specs.Indices.{Blocks}
use Rattle.zst_sessions.specs.CommandSteps.{told_as}
use Rattle.zst_sessions.specs.EngineSteps.{coded_held, kept_pool}
use Rattle.zst_sessions.specs.Engines.{Kept, kept_at}
use Rattle.zst_sessions.specs.Moves.{most_receives, most_sends}
use Rattle.zst_sessions.specs.Takes.{LooksAtPool}
use Rattle.zst_sessions.specs.declared.engine.Engine.{Engine}
use Rattle.zst_sessions.specs.declared.event_reply.EventReply.{EventReply}
use Rattle.zst_sessions.specs.declared.event_reply.EventReply.TheVariants.{Opened}
use Rattle.zst_sessions.specs.declared.open_sessions.OpenReceive as kept_receives
use Rattle.zst_sessions.specs.declared.open_sessions.OpenSend as kept_sends
use Rattle.zst_sessions.specs.declared.openings.Begun.{Begun}

-- ---- what is begun on one pool

-- A send of this was begun, from its beginning or from a point: it has given nothing, and it tells the name of its snapshot and the number of its pool.
pub record IsBegun (has : Blocks) (start : Option Point) (count : ℕ) (sent : Sent) (begun : Begun) : Type 0 where
  pub holds : begun.snapshot ≡ sent.snapshot.name
  pub numbered : begun.number ≡ count
  pub sends : SendsFrom has begun.send sent start [] (begun_text sent start)

-- A send of what its plan gives was begun; its refusals are the plan's, unless the disk failed or no memory was left.
abbrev pub Begins : Blocks → Option Point → (number : ℕ) → Result Sent PlanFault → Result Begun PoolFault → Type 0
Begins has start number plan (Ok begun) = (sent : Sent) × (plan ≡ Ok sent) × IsBegun has start number sent begun
Begins has start number plan (Err (Plan fault)) = plan ≡ Err fault
Begins has start number plan (Err (CannotApply fault)) = ⊥
Begins has start number plan (Err (Redacted object block)) = ⊥
Begins has start number plan (Err (Full need largest)) = ⊥
Begins has start number plan (Err (Damaged sector stated found)) = ⊥
Begins has start number plan (Err DiskFault) = Unit {0}
Begins has start number plan (Err Failed) = ⊥
Begins has start number plan (Err OutOfMemory) = Unit {0}

-- so it is over a pool as it is kept before and after, which is at rest and whose disk hasn't failed
abbrev pub BeginsOn : Option Point → (Plain → Result Sent PlanFault) → (old new : Kept) → Result Begun PoolFault → Type 0
BeginsOn start plan old new result =
    (running : Plain) → new.disk.honest → old.failed ≡ false → IsAtRest true old.disk old.state running
    → Begins (Has new.disk.seen (free_by new.state.body)) start running.number (plan running) result

-- what a pool tells of a dataset's partial state
pub record TellsToken (dataset : List ℕ) (kept : Kept) (result : Result Token Refusal) : Type 0 where
  pub had_failed : kept.failed ≡ true → result ≡ Err refusals.Failed
  pub told : kept.failed ≡ false → (running : Plain) → AreNamed kept.state.dir running → result ≡ told_as (token_told dataset running)
  pub open_still : kept.failed ≡ false → ¬ (result ≡ Err refusals.Failed)
  pub no_fault : ¬ (result ≡ Err refusals.DiskFault)
  pub never_full : (need largest : ℕ) → ¬ (result ≡ Err (refusals.Full need largest))

-- ---- why no session is opened

-- an id that a session has, of either kind
abbrev pub is_coded_used : ℕ → List kept_sends.OpenSend → List kept_receives.OpenReceive → Bool
is_coded_used id sends receives = list_any (λ one. one.id == id) sends || list_any (λ one. one.id == id) receives

-- E5 of a send's id, and E23
abbrev pub send_refusal : ℕ → List kept_sends.OpenSend → List kept_receives.OpenReceive → Option Refusal
send_refusal id sends receives =
    if is_coded_used id sends receives then Some (busy_session id) else
    (if nat_lt (length sends) most_sends then None else Some (refusals.Limit quantities.Sends most_sends))

-- the session in whose way a receive is: one that receives into its target, or one that has its id; the one with the least id of them
abbrev pub coded_in_the_way : Side → ℕ → List ℕ → List kept_sends.OpenSend → List kept_receives.OpenReceive → Option ℕ
coded_in_the_way side id target sends receives =
    let claiming = session_into target (coded_held side sends receives) in
    if is_coded_used id sends receives then Some (lesser id claiming) else claiming

-- E31, E5 of the session in a receive's way, and E23 of so many receives
abbrev pub receive_refusal : (failed : Bool) → Option ℕ → ℕ → Option Refusal
receive_refusal true way count = Some refusals.Failed
receive_refusal false (Some other) count = Some (busy_session other)
receive_refusal false None count = if nat_lt count most_receives then None else Some (refusals.Limit quantities.Receives most_receives)

-- ---- what is kept

-- the send that was begun, as the engine keeps it
abbrev pub opened_of : Side → ℕ → Begun → kept_sends.OpenSend
opened_of side id begun = record { id = id; side = side; snapshot = begun.snapshot; send = begun.send }

-- one send more, behind the others, whose pool has this number; or it is refused, or no memory is left
pub data AddsSend (one : kept_sends.OpenSend) (number : ℕ) (receives : List kept_receives.OpenReceive) (old new : List kept_sends.OpenSend) (result : Result EventReply Refusal) : Type 0 where
  IsRefused : (refusal : Refusal) → send_refusal one.id old receives ≡ Some refusal → result ≡ Err refusal → new ≡ old → AddsSend one number receives old new result
  HasNoMemory : result ≡ Err refusals.OutOfMemory → new ≡ old → AddsSend one number receives old new result
  Adds : send_refusal one.id old receives ≡ None → result ≡ Ok (Opened number) → new ≡ old ++ one ∷ [] → AddsSend one number receives old new result

-- one receive more, or no memory is left
pub data AddsReceive (one : kept_receives.OpenReceive) (number : ℕ) (old new : List kept_receives.OpenReceive) (result : Result EventReply Refusal) : Type 0 where
  LacksMemory : result ≡ Err refusals.OutOfMemory → new ≡ old → AddsReceive one number old new result
  Admits : result ≡ Ok (Opened number) → new ≡ old ++ one ∷ [] → AddsReceive one number old new result

-- ---- two pools

module _ {D E : Type 0} {g : Ghosts D} {h : Ghosts E} where
  -- the pool on a side, as it is kept
  abbrev pub kept_on : Side → Engine D E g h → Kept
  kept_on side engine = kept_at side (kept_pool engine.here) (kept_pool engine.there)

  -- A call only looked at the pool on a side, and left all else as it was.
  abbrev pub LooksAtSide : {T : Type 0} → Side → Engine D E g h → Engine D E g h → Result T PoolFault → Type 0
  LooksAtSide Here old new result = (new ≡ record old { here = new.here }) × LooksAtPool old.here new.here result
  LooksAtSide There old new result = (new ≡ record old { there = new.there }) × LooksAtPool old.there new.there result

  -- A send of what its plan gives was begun on the pool of a side, or it was refused.
  pub record BeginsAt (side : Side) (start : Option Point) (plan : Plain → Result Sent PlanFault) (old new : Engine D E g h) (result : Result Begun PoolFault) : Type 0 where
    pub begins : BeginsOn start plan (kept_on side old) (kept_on side new) result
    pub fits : IfOk result (λ begun. SendFits begun.send)
    pub looks : LooksAtSide side old new result
