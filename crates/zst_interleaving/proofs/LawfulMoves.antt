-- Lawful pools along a replay.
use Rattle.std.proofs.Common.{inl, inr, ◌≡◌, ◌⊎◌, ℕ, ◌^◌, ◌<◌, Bool, true, false, not, List, [], ◌∷◌, ◌++◌, All, length, nat_lt, map, Option, Some, None, Result, Ok, Err, refl, sym, subst, cond, ◌==◌}
use Rattle.std.specs.Prelude.{filter}
use Rattle.std.specs.Option.{option_map_or}
use Rattle.std.proofs.lemmas.List.Elements.{All-append, All-contains, All-drop, All-filter, All-head, All-map, All-nil, All-push, All-tail, All-take, All-weaker}
use Rattle.zst_laws.specs.StepInvariants.{StepsKeepPools}
use Rattle.zst_laws.proofs.pools.LawfulRest.{fewer_partials_are_lawful}
use Rattle.zst_model.specs.declared.pools.command.Command.{Command}
use Rattle.zst_model.specs.declared.refusals.plan_fault.PlanFault.{PlanFault}
use Rattle.zst_model.specs.declared.refusals.refusal.Refusal.{Refusal}
use Rattle.zst_model.specs.declared.sends.header.Point.{Point}
use Rattle.zst_model.specs.pools.Pool.{Pool, Partial, IsPool}
use Rattle.zst_model.specs.pools.Step.{IsCommand, Stepped, stepped}
use Rattle.zst_model.specs.sends.Headers.{Sent}
use Rattle.zst_model.specs.sends.SendPlan.{send_plan, with_list}
use Rattle.zst_model.proofs.FoundElements.{found_passes}
use Rattle.zst_model.specs.states.State.{AreBytes}
use Rattle.zst_plan.specs.declared.receive.RecvAsk.{RecvAsk}
use Rattle.zst_recv.specs.ReceiveSteps.{Stage, Waits, Lives, Ends, Fed, Goes, Stops, left_by, pool_of}
use Rattle.zst_recv.specs.Tokens.{token_told}
use Rattle.zst_send.specs.Openings.{rest_of}
use Rattle.zst_send.specs.SentBytes.{RestsAreBytes, SentAreBytes}
use Rattle.zst_send.specs.Sends.{begun_text}
use Rattle.zst_script.specs.declared.event.Event.{Event}
use Rattle.zst_script.specs.declared.event.Event.TheVariants as events
use Rattle.zst_script.specs.declared.event.Side.{Side}
use Rattle.zst_script.specs.declared.event.Side.TheVariants.{Here, There}
use Rattle.zst_sessions.specs.Lawfulness.{IsWorld, MovesKeepWorlds}
use Rattle.zst_sessions.specs.Moves.{Answer, Moved, cut_off, ended, fed_to, feeding, if_new_receive, in_the_way, moved, most_receives, most_sends, no_session, on_receive, on_send, opened_receive, opened_send, pumped, refuses, resumed, stepped_to, told_by}
use Rattle.zst_sessions.specs.Replay.{AsDefined, DiskFails, Fails, FeedFails, FindsNoMemory, FindsNoRoom, GoesOn, LosesDisk, Moves, Replay, Stays, TakeFails, given_up, given_up_pump, TakesNoPiece}
use Rattle.zst_sessions.specs.World.{OpenPool, OpenReceive, OpenSend, World, at_side, gone_on, held_at, is_side, is_used, left_of, moved_to, next_piece, other_side, put_receive, put_send, put_side, receive_with, send_with, without_receive}
use Rattle.zst_token.specs.declared.token.Token.{Token}
use Rattle.zst_interleaving.specs.LawfulFeeds.{FeedsKeepLawful, IsAsk}
use Rattle.zst_interleaving.specs.LawfulWorlds.{AreFit, IsFitFor, IsLawfulWorld, MovesKeepLawful, OpenedAreLawful, ReplaysKeepLawful}
use Rattle.zst_interleaving.proofs.Beside.{stands_in}

-- ---- worlds

-- a receive that is open is into a dataset's name and has read bytes
abbrev HasRead : OpenReceive → Type 0
HasRead receive = IsAsk receive.ask × AreBytes receive.text

-- a send that is open is of bytes
abbrev GivesBytes : OpenSend → Type 0
GivesBytes send = AreBytes (begun_text send.sent send.start)

-- two lawful pools as they were opened
pub opened_lawful : OpenedAreLawful
opened_lawful here there p q = record { here = p; there = q; sends = All-nil GivesBytes; receives = All-nil HasRead }

pub pool_at : (world : World) (side : Side) → IsLawfulWorld world → IsPool (at_side side world).pool
pool_at world Here is = is.here
pool_at world There is = is.there

-- with another lawful pool on a side
with_pool : (world : World) (side : Side) (pool : OpenPool) → IsLawfulWorld world → IsPool pool.pool → IsLawfulWorld (put_side side pool world)
with_pool world Here pool is lawful = record { here = lawful; there = is.there; sends = is.sends; receives = is.receives }
with_pool world There pool is lawful = record { here = is.here; there = lawful; sends = is.sends; receives = is.receives }

-- with other sends, and with other receives
with_sends : (world : World) (sends : List OpenSend) → IsLawfulWorld world → All GivesBytes sends → IsLawfulWorld (record world { sends = sends })
with_sends world sends is give = record { here = is.here; there = is.there; sends = give; receives = is.receives }

with_receives : (world : World) (receives : List OpenReceive) → IsLawfulWorld world → All HasRead receives → IsLawfulWorld (record world { receives = receives })
with_receives world receives is read = record { here = is.here; there = is.there; sends = is.sends; receives = read }

without_it : (world : World) (id : ℕ) → IsLawfulWorld world → IsLawfulWorld (without_receive id world)
without_it world id is = with_receives world (filter (λ receive. not (receive.id == id)) world.receives) is (All-filter (λ receive. not (receive.id == id)) HasRead world.receives is.receives)

put_it : (world : World) (id : ℕ) (text : List ℕ) (stage : Stage) → IsLawfulWorld world → AreBytes text → IsLawfulWorld (put_receive id text stage world)
put_it world id text stage is bytes =
    with_receives world (map (moved_to id text stage) world.receives) is
    (All-map HasRead (moved_to id text stage) world.receives (All-weaker HasRead (λ one. HasRead (moved_to id text stage one)) on world.receives is.receives))
  where
    on : (one : OpenReceive) → HasRead one → HasRead (moved_to id text stage one)
    on one read = go (one.id == id)
      where
        go : (t : Bool) → HasRead (cond t (record one { text = text; stage = stage }) one)
        go true = (read.0, bytes)
        go false = read

-- what an open receive has read
has_read : (world : World) (id : ℕ) (receive : OpenReceive) → IsLawfulWorld world → receive_with id world ≡ Some receive → HasRead receive
has_read world id receive is found = All-contains HasRead world.receives receive is.receives (found_passes (λ (r : OpenReceive). r.id == id) world.receives receive found).0

-- what an open send gives, and what it gives next
gives : (world : World) (id : ℕ) (send : OpenSend) → IsLawfulWorld world → send_with id world ≡ Some send → GivesBytes send
gives world id send is found = All-contains GivesBytes world.sends send is.sends (found_passes (λ (s : OpenSend). s.id == id) world.sends send found).0

piece_is_bytes : (count : ℕ) (send : OpenSend) → GivesBytes send → AreBytes (next_piece count send)
piece_is_bytes count send give =
    All-take (λ byte. byte < 2 ^ 8) count (left_of send) (All-drop (λ byte. byte < 2 ^ 8) send.given (begun_text send.sent send.start) give)

-- a send goes on: it is of what it was of
gone_keeps : (world : World) (count : ℕ) (send : OpenSend) → IsLawfulWorld world → GivesBytes send → IsLawfulWorld (put_send (gone_on count send) world)
gone_keeps world count send is give =
    with_sends world (map (λ one. cond (one.id == send.id) (gone_on count send) one) world.sends) is
    (All-map GivesBytes (λ one. cond (one.id == send.id) (gone_on count send) one) world.sends
    (All-weaker GivesBytes (λ one. GivesBytes (cond (one.id == send.id) (gone_on count send) one)) on world.sends is.sends))
  where
    on : (one : OpenSend) → GivesBytes one → GivesBytes (cond (one.id == send.id) (gone_on count send) one)
    on one was = go (one.id == send.id)
      where
        go : (t : Bool) → GivesBytes (cond t (gone_on count send) one)
        go true = give
        go false = was

-- a receive is cut
left_at : (stage : Stage) (pool : Pool) → IsPool pool → IsPool (left_by stage pool)
left_at Waits pool p = p
left_at (Lives flags partial) pool p = fewer_partials_are_lawful _ pool p
left_at (Ends partial) pool p = p

cut_keeps : (world : World) (receive : OpenReceive) → IsLawfulWorld world → IsLawfulWorld (cut_off receive world)
cut_keeps world receive is =
    let left : OpenPool = record { pool = left_by receive.stage (at_side receive.side world).pool; failed = (at_side receive.side world).failed } in
    without_it (put_side receive.side left world) receive.id (with_pool world receive.side left is (left_at receive.stage (at_side receive.side world).pool (pool_at world receive.side is)))

-- the sessions of a pool end
ended_keeps : (world : World) (side : Side) → IsLawfulWorld world → IsLawfulWorld (ended side world)
ended_keeps world side is =
    let fewer : World = record world { sends = filter (λ send. not (is_side send.side side)) world.sends; receives = filter (λ receive. not (is_side receive.side side)) world.receives } in
    let others : IsLawfulWorld fewer = record { here = is.here; there = is.there; sends = All-filter (λ send. not (is_side send.side side)) GivesBytes world.sends is.sends; receives = All-filter (λ receive. not (is_side receive.side side)) HasRead world.receives is.receives } in
    with_pool fewer side _ others (fewer_partials_are_lawful (λ (q : Partial). q.keep) (at_side side world).pool (pool_at world side is))

-- ---- one event

module _ (steps : StepsKeepPools) (feeds : FeedsKeepLawful) (sent_bytes : SentAreBytes) (rest_bytes : RestsAreBytes) (now : ℕ) (fits : now < 2 ^ 64) (world : World) (stands : IsWorld world) (is : IsLawfulWorld world) where
  abbrev Keeps : Moved → Type 0
  Keeps done = IsLawfulWorld done.world

  either : (t : Bool) (refusal : Refusal) (rest : Moved) → Keeps rest → Keeps (cond t (refuses refusal world) rest)
  either true refusal rest on = is
  either false refusal rest on = on

  either_last : (t : Bool) (refusal : Refusal) (rest : Moved) → Keeps rest → Keeps (cond t rest (refuses refusal world))
  either_last true refusal rest on = on
  either_last false refusal rest on = is

  stepped_keeps : (side : Side) (command : Command) (r : Result Stepped Refusal) → IsCommand command → stepped (held_at side world) now command (at_side side world).pool ≡ r → Keeps (stepped_to side world r)
  stepped_keeps side command (Ok done) words e =
      with_pool world side (record { pool = done.pool; failed = (at_side side world).failed }) is
      (steps (held_at side world) now command (at_side side world).pool done words fits (pool_at world side is) e)
  stepped_keeps side command (Err refusal) words e = is

  told_keeps : (r : Result Token PlanFault) → Keeps (told_by world r)
  told_keeps (Ok token) = is
  told_keeps (Err fault) = is

  opened_keeps : (side : Side) (id : ℕ) (start : Option Point) (r : Result Sent PlanFault) → ((sent : Sent) → r ≡ Ok sent → AreBytes (begun_text sent start)) → Keeps (opened_send side id start world r)
  opened_keeps side id start (Ok sent) bytes =
      let send : OpenSend = record { id = id; side = side; sent = sent; start = start; given = 0 } in
      either (is_used id world) _ _ (either_last (nat_lt (length world.sends) most_sends) _ _
      (with_sends world (world.sends ++ send ∷ []) is (All-push GivesBytes world.sends send is.sends (bytes sent refl))))
  opened_keeps side id start (Err fault) bytes = is

  resumed_keeps : (side : Side) (id : ℕ) (r : Result Token PlanFault) → Keeps (resumed side id world r)
  resumed_keeps side id (Ok token) =
      let pool = (at_side side world).pool in
      opened_keeps side id (Some token.point) (with_list (rest_of token pool)) (λ sent e. rest_bytes token pool sent (pool_at world side is) e)
  resumed_keeps side id (Err fault) = is

  new_receive_keeps : (o : Option ℕ) (rest : Moved) → Keeps rest → Keeps (if_new_receive o world rest)
  new_receive_keeps (Some busy) rest on = is
  new_receive_keeps None rest on = either_last (nat_lt (length world.receives) most_receives) _ rest on

  opened_receive_keeps : (side : Side) (id : ℕ) (ask : RecvAsk) → IsAsk ask → Keeps (opened_receive side id ask world)
  opened_receive_keeps side id ask asks =
      let receive : OpenReceive = record { id = id; side = side; ask = ask; text = []; stage = Waits } in
      new_receive_keeps (in_the_way side id ask.target world) _
      (with_receives world (world.receives ++ receive ∷ []) is (All-push HasRead world.receives receive is.receives (asks, All-nil (λ byte. byte < 2 ^ 8))))

  on_send_keeps : (id : ℕ) (next : OpenSend → Moved) → ((one : OpenSend) → send_with id world ≡ Some one → Keeps (next one)) → Keeps (on_send id world next)
  on_send_keeps id next on = go (send_with id world) refl
    where
      go : (o : Option OpenSend) → send_with id world ≡ o → Keeps (option_map_or next o (refuses (no_session id) world))
      go None e = is
      go (Some one) e = on one e

  on_receive_keeps : (id : ℕ) (next : OpenReceive → Moved) → ((one : OpenReceive) → receive_with id world ≡ Some one → Keeps (next one)) → Keeps (on_receive id world next)
  on_receive_keeps id next on = go (receive_with id world) refl
    where
      go : (o : Option OpenReceive) → receive_with id world ≡ o → Keeps (option_map_or next o (refuses (no_session id) world))
      go None e = is
      go (Some one) e = on one e

  -- what a feed answers
  fed_keeps : (gave : World) (receive : OpenReceive) (piece : List ℕ) (applied : ℕ) (f : Fed) → IsLawfulWorld gave → AreBytes (receive.text ++ piece) → IsPool (pool_of f) → Keeps (fed_to receive piece applied gave f)
  fed_keeps gave receive piece applied (Goes pool Waits) was bytes lawful =
      let next : OpenPool = record { pool = pool; failed = (at_side receive.side gave).failed } in
      put_it (put_side receive.side next gave) receive.id (receive.text ++ piece) Waits (with_pool gave receive.side next was lawful) bytes
  fed_keeps gave receive piece applied (Goes pool (Lives flags partial)) was bytes lawful =
      let next : OpenPool = record { pool = pool; failed = (at_side receive.side gave).failed } in
      put_it (put_side receive.side next gave) receive.id (receive.text ++ piece) (Lives flags partial) (with_pool gave receive.side next was lawful) bytes
  fed_keeps gave receive piece applied (Goes pool (Ends partial)) was bytes lawful =
      let next : OpenPool = record { pool = pool; failed = (at_side receive.side gave).failed } in
      without_it (put_side receive.side next gave) receive.id (with_pool gave receive.side next was lawful)
  fed_keeps gave receive piece applied (Stops pool refusal) was bytes lawful =
      let next : OpenPool = record { pool = pool; failed = (at_side receive.side gave).failed } in
      without_it (put_side receive.side next gave) receive.id (with_pool gave receive.side next was lawful)

  pumped_keeps : (id count : ℕ) (send : OpenSend) (receive : OpenReceive) → receive_with id world ≡ Some receive → GivesBytes send → Keeps (pumped count send receive world)
  pumped_keeps id count send receive found give =
      let piece = next_piece count send in
      let pool = (at_side receive.side world).pool in
      let read = has_read world id receive is found in
      let bytes : AreBytes (receive.text ++ piece) = All-append (λ byte. byte < 2 ^ 8) receive.text piece read.1 (piece_is_bytes count send give) in
      fed_keeps (put_send (gone_on count send) world) receive piece _ (feeding receive.ask receive.text piece receive.stage pool) (gone_keeps world count send is give) bytes
      (feeds receive.ask receive.text piece receive.stage pool read.0 bytes (pool_at world receive.side is) (stands_in world id receive stands found))

  moved_keeps : (event : Event) → IsFitFor event → Keeps (moved now event world)
  unfolding moved
  moved_keeps (events.Step side command) words =
      either (at_side side world).failed _ _ (stepped_keeps side command (stepped (held_at side world) now command (at_side side world).pool) words refl)
  moved_keeps (events.Token side dataset) words = either (at_side side world).failed _ _ (told_keeps (token_told dataset (at_side side world).pool))
  moved_keeps (events.Check side) words = is
  moved_keeps (events.Send side id ask) words =
      let pool = (at_side side world).pool in
      either (at_side side world).failed _ _ (opened_keeps side id None (with_list (send_plan ask pool)) (λ sent e. sent_bytes ask pool sent (pool_at world side is) e))
  moved_keeps (events.Resume side id dataset) words =
      either (at_side side world).failed _ _ (either (at_side (other_side side) world).failed _ _ (resumed_keeps side id (token_told dataset (at_side (other_side side) world).pool)))
  moved_keeps (events.Receive side id ask) asks = either (at_side side world).failed _ _ (opened_receive_keeps side id ask asks)
  moved_keeps (events.Pump sends receives count) words =
      on_send_keeps sends _ (λ one sent. on_receive_keeps receives _ (λ receive found.
      either (at_side one.side world).failed _ _ (either (at_side receive.side world).failed _ _ (pumped_keeps receives count one receive found (gives world sends one is sent)))))
  moved_keeps (events.Drop id count) words = on_send_keeps id _ (λ one sent. either (at_side one.side world).failed _ _ (gone_keeps world count one is (gives world id one is sent)))
  moved_keeps (events.Close id) words =
      on_send_keeps id _ (λ one sent. with_sends world (filter (λ send. not (send.id == id)) world.sends) is (All-filter (λ send. not (send.id == id)) GivesBytes world.sends is.sends))
  moved_keeps (events.Cut id) words = on_receive_keeps id _ (λ receive found. cut_keeps world receive is)
  moved_keeps (events.Reopen side) words =
      let left = ended_keeps world side is in
      with_pool (ended side world) side (record { pool = (at_side side (ended side world)).pool; failed = false }) left (pool_at (ended side world) side left)

  -- ---- an event that is given up, or loses a disk

  given_up_keeps : (event : Event) → IsLawfulWorld (given_up event world)
  given_up_keeps (events.Step side command) = is
  given_up_keeps (events.Token side dataset) = is
  given_up_keeps (events.Check side) = is
  given_up_keeps (events.Send side id ask) = is
  given_up_keeps (events.Resume side id dataset) = is
  given_up_keeps (events.Receive side id ask) = is
  given_up_keeps (events.Pump sends receives count) = go (send_with sends world) refl (receive_with receives world)
    where
      go : (o : Option OpenSend) → send_with sends world ≡ o → (r : Option OpenReceive) → IsLawfulWorld (given_up_pump count o r world)
      go None found r = is
      go (Some one) found None = is
      go (Some one) found (Some receive) = cut_keeps (put_send (gone_on count one) world) receive (gone_keeps world count one is (gives world sends one is found))
  given_up_keeps (events.Drop id count) = is
  given_up_keeps (events.Close id) = is
  given_up_keeps (events.Cut id) = is
  given_up_keeps (events.Reopen side) = ended_keeps world side is

  -- the pool is what was left, or what was to be made
  fails_keep : (side : Side) (left done next : World) → IsLawfulWorld left → IsLawfulWorld done → Fails side left done next → IsLawfulWorld next
  fails_keep side left done next lawful made fails =
      subst IsLawfulWorld (sym fails.world_is) (with_pool left side (record { pool = fails.pool; failed = true }) lawful (go fails.one_of))
    where
      go : (fails.pool ≡ (at_side side left).pool) ⊎ (fails.pool ≡ (at_side side done).pool) → IsPool fails.pool
      go (inl same) = subst IsPool (sym same) (pool_at left side lawful)
      go (inr same) = subst IsPool (sym same) (pool_at done side made)

  take_keeps : (id : ℕ) (next : World) → TakeFails id world next → IsLawfulWorld next
  take_keeps id next fails = fails_keep fails.0.side world world next is is fails.2

  pump_keeps : (sends receives count : ℕ) (next : World) → IsFitFor (events.Pump sends receives count) → TakeFails sends world next ⊎ FeedFails receives now (events.Pump sends receives count) world next → IsLawfulWorld next
  pump_keeps sends receives count next words (inl fails) = take_keeps sends next fails
  pump_keeps sends receives count next words (inr fails) =
      fails_keep fails.0.side (given_up (events.Pump sends receives count) world) (moved now (events.Pump sends receives count) world).world next
      (given_up_keeps (events.Pump sends receives count)) (moved_keeps (events.Pump sends receives count) words) fails.2

  lost_keeps : (event : Event) (next : World) → IsFitFor event → DiskFails now event world next → IsLawfulWorld next
  lost_keeps (events.Step side command) next words fails =
      fails_keep side world (moved now (events.Step side command) world).world next is (moved_keeps (events.Step side command) words) fails
  lost_keeps (events.Token side dataset) next words fails = absurd fails
  lost_keeps (events.Check side) next words fails = fails_keep side world world next is is fails
  lost_keeps (events.Send side id ask) next words fails = fails_keep side world world next is is fails
  lost_keeps (events.Resume side id dataset) next words fails = fails_keep side world world next is is fails
  lost_keeps (events.Receive side id ask) next words fails = absurd fails
  lost_keeps (events.Pump sends receives count) next words fails = pump_keeps sends receives count next words fails
  lost_keeps (events.Drop id count) next words fails = take_keeps id next fails
  lost_keeps (events.Close id) next words fails = absurd fails
  lost_keeps (events.Cut id) next words fails = absurd fails
  lost_keeps (events.Reopen side) next words fails = let left = ended_keeps world side is in fails_keep side (ended side world) (ended side world) next left left fails

  event_keeps : (event : Event) (answer : Answer) (next : World) → IsFitFor event → Moves now world event answer next → IsLawfulWorld next
  event_keeps event answer next words (AsDefined told left) = subst IsLawfulWorld (sym left) (moved_keeps event words)
  event_keeps event answer next words (FindsNoRoom need largest told less may left) = subst IsLawfulWorld (sym left) (given_up_keeps event)
  event_keeps event answer next words (FindsNoMemory told left) = subst IsLawfulWorld (sym left) (given_up_keeps event)
  event_keeps event answer next words (TakesNoPiece from into most which told left) = subst IsLawfulWorld (sym left) is
  event_keeps event answer next words (LosesDisk told fails) = lost_keeps event next words fails

pub moves_lawful : StepsKeepPools → FeedsKeepLawful → SentAreBytes → RestsAreBytes → MovesKeepLawful
moves_lawful steps feeds sent_bytes rest_bytes now world next event answer fits stands words moves is =
    event_keeps steps feeds sent_bytes rest_bytes now fits world stands is event answer next words moves

-- ---- a replay

along : MovesKeepWorlds → MovesKeepLawful → (now : ℕ) → now < 2 ^ 64 → (world last : World) (run : List Event) (answers : List Answer) → Replay now world run answers last → AreFit run → IsWorld world → IsLawfulWorld world → IsLawfulWorld last
along worlds moves now fits _ _ _ _ (Stays world) words stands is = is
along worlds moves now fits _ _ _ _ (GoesOn world next last event answer run answers goes rest) words stands is =
    along worlds moves now fits next last run answers rest (All-tail IsFitFor event run words) (worlds now world next event answer goes stands)
    (moves now world next event answer fits stands (All-head IsFitFor event run words) goes is)

pub replays_lawful : MovesKeepWorlds → MovesKeepLawful → ReplaysKeepLawful
replays_lawful worlds moves now world last run answers fits stands is words on = along worlds moves now fits world last run answers on words stands is
