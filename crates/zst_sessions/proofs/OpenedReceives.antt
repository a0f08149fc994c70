-- What an event that opens a receive makes of a world, where its receive was begun on one pool or was refused.
use Rattle.std.proofs.Common.{◌≡◌, ◌++◌, ◌∷◌, ℕ, Bool, true, false, cond, nat_lt, List, [], length, map, filter, Option, Some, None, Result, Err, refl, sym, ap, ◌∙◌, subst}
use Rattle.zst_dir.proofs.Matches.{filter-Match}
use Rattle.zst_dir.specs.RowNames.{Match}
use Rattle.zst_dir.specs.Rows.{Rows}
use Rattle.zst_image.specs.Bodies.{free_by}
use Rattle.zst_image.specs.Reads.{bound_of}
use Rattle.zst_model.specs.declared.refusals.faults.Quantity.TheVariants as quantities
use Rattle.zst_model.specs.declared.refusals.refusal.Refusal.{Refusal}
use Rattle.zst_model.specs.declared.refusals.refusal.Refusal.TheVariants as refusals
use Rattle.zst_model.specs.pools.Pool.{Pool}
use Rattle.zst_model.specs.pools.Sessions.{Held, Holds, Claims, busy_session, lesser, session_into}
use Rattle.zst_plan.specs.declared.receive.RecvAsk.{RecvAsk}
use Rattle.zst_recv.proofs.RecordOrder.{nothing_read}
use Rattle.zst_recv.specs.FedReceives.{IsFresh}
use Rattle.zst_recv.specs.GoingOn.{IsRow}
use Rattle.zst_recv.specs.ReceiveSteps.{Waits}
use Rattle.zst_recv.specs.Stages.{waits_at}
use Rattle.zst_recv.specs.declared.recv.Recv.{Recv}
use Rattle.zst_recv.specs.declared.stage.Stage as coded_stages
use Rattle.zst_recv.specs.declared.stage.Stage.TheVariants as stages
use Rattle.zst_script.specs.declared.event.Event.TheVariants as events
use Rattle.zst_script.specs.declared.event.Side.{Side}
use Rattle.zst_sessions.proofs.OpenedSends.{opened_line}
use Rattle.zst_sessions.proofs.ReadEvents.{as_defined, or_refused, receives_alike, receives_more, stays, used_alike}
use Rattle.zst_sessions.specs.EngineSteps.{ReceiveFits, coded_claim, coded_held, coded_hold}
use Rattle.zst_sessions.specs.Engines.{Kept, ReceiveStandsOn, SendStandsOn, Stands, Steps, kept_at}
use Rattle.zst_sessions.specs.EventReplies.{answer_of}
use Rattle.zst_sessions.specs.Lawfulness.{MovesKeepWorlds}
use Rattle.zst_sessions.specs.Moves.{Answer, Moved, answers, if_new_receive, in_the_way, most_receives, moved, number_line, refuses}
use Rattle.zst_sessions.specs.Openings.{AddsReceive, Admits, LacksMemory, coded_in_the_way, receive_refusal}
use Rattle.zst_sessions.specs.Replay.{FindsNoMemory, Moves}
use Rattle.zst_sessions.specs.Takes.{WasOnlyRead}
use Rattle.zst_sessions.specs.World.{OpenReceive, OpenSend, World, at_side, claim_of, held_at, hold_of, is_side, is_used, with_receive}
use Rattle.zst_sessions.specs.declared.event_reply.EventReply.{EventReply}
use Rattle.zst_sessions.specs.declared.open_sessions.OpenReceive as kept_receives
use Rattle.zst_sessions.specs.declared.open_sessions.OpenSend as kept_sends

-- ---- the session in the way

-- what is read alike of elements that match
read_alike : {A B C : Type 0} (Is : A → B → Type 0) (f : A → C) (g : B → C) → ((x : A) (y : B) → Is x y → f x ≡ g y) → (xs : List A) (ys : List B) → Match Is xs ys → map f xs ≡ map g ys
read_alike Is f g same [] [] m = refl
read_alike Is f g same [] (y ∷ ys) m = absurd m
read_alike Is f g same (x ∷ xs) [] m = absurd m
read_alike {C = C} Is f g same (x ∷ xs) (y ∷ ys) m =
    ap (λ (c : C). c ∷ map f xs) (same x y m.0) ∙ ap (λ (cs : List C). g y ∷ cs) (read_alike Is f g same xs ys m.1)

module _ (side : Side) (here there : Kept) (sends : List kept_sends.OpenSend) (receives : List kept_receives.OpenReceive) (world : World) (stands : Stands true here there sends receives world) where
  abbrev IsSend : kept_sends.OpenSend → OpenSend → Type 0
  IsSend one send = SendStandsOn (kept_at send.side here there) one send

  abbrev IsReceive : kept_receives.OpenReceive → OpenReceive → Type 0
  IsReceive one receive = ReceiveStandsOn true (kept_at receive.side here there) (at_side receive.side world).pool one receive

  -- what the sessions of a pool hold and claim of it is what the world's do
  held_alike : coded_held side sends receives ≡ held_at side world
  held_alike =
      let held = read_alike IsSend coded_hold hold_of
      (λ one send is. ap (λ (n : ℕ). Holds n one.snapshot) is.id ∙ ap (λ (name : List ℕ). Holds send.id name) is.holds)
      (filter (λ one. is_side one.side side) sends) (filter (λ send. is_side send.side side) world.sends)
      (filter-Match IsSend (λ one. is_side one.side side) (λ send. is_side send.side side) (λ one send is. ap (λ (s : Side). is_side s side) is.side) sends world.sends stands.send_stands) in
      let claimed = read_alike IsReceive coded_claim claim_of
      (λ one receive is. ap (λ (n : ℕ). Claims n one.recv.ask.target) is.id ∙ ap (λ (ask : RecvAsk). Claims receive.id ask.target) is.ask)
      (filter (λ one. is_side one.side side) receives) (filter (λ receive. is_side receive.side side) world.receives)
      (filter-Match IsReceive (λ one. is_side one.side side) (λ receive. is_side receive.side side) (λ one receive is. ap (λ (s : Side). is_side s side) is.side) receives world.receives stands.receive_stands) in
      ap (λ (l : List Held). l ++ map coded_claim (filter (λ (one : kept_receives.OpenReceive). is_side one.side side) receives)) held
      ∙ ap (λ (l : List Held). map hold_of (filter (λ (send : OpenSend). is_side send.side side) world.sends) ++ l) claimed

  -- so the session in the way of a receive is the world's
  way_alike : (id : ℕ) (target : List ℕ) → coded_in_the_way side id target sends receives ≡ in_the_way side id target world
  way_alike id target =
      ap (λ (b : Bool). cond b (Some (lesser id (session_into target (coded_held side sends receives)))) (session_into target (coded_held side sends receives))) (used_alike id here there sends receives world stands)
      ∙ ap (λ (l : List Held). cond (is_used id world) (Some (lesser id (session_into target l))) (session_into target l)) held_alike

-- what comes of the mark of the pool, of the session in the way and of the count of receives
abbrev way_tested : World → Moved → (failed : Bool) → Option ℕ → (few : Bool) → Moved
way_tested world rest failed (Some other) few = cond failed (refuses refusals.Failed world) (refuses (busy_session other) world)
way_tested world rest failed None few = cond failed (refuses refusals.Failed world) (cond few rest (refuses (refusals.Limit quantities.Receives most_receives) world))

tested_so : (world : World) (rest : Moved) (failed : Bool) (way : Option ℕ) (count : ℕ) → way_tested world rest failed way (nat_lt count most_receives) ≡ or_refused (receive_refusal failed way count) world rest
tested_so world rest true (Some other) count = refl
tested_so world rest true None count = refl
tested_so world rest false (Some other) count = refl
tested_so world rest false None count = go (nat_lt count most_receives)
  where
    go : (few : Bool) → way_tested world rest false None few ≡ or_refused (cond few None (Some (refusals.Limit quantities.Receives most_receives))) world rest
    go true = refl
    go false = refl

defined_so : (world : World) (rest : Moved) (failed : Bool) (way : Option ℕ) → cond failed (refuses refusals.Failed world) (if_new_receive way world rest) ≡ way_tested world rest failed way (nat_lt (length world.receives) most_receives)
defined_so world rest failed (Some other) = refl
defined_so world rest failed None = refl

-- ---- a receive that was begun

-- one that waits for BEGIN has no row
waits_for_row : (rows : Rows) (target : List ℕ) (stage : coded_stages.Stage) → waits_at stage ≡ true → IsRow rows target stage
waits_for_row rows target stages.Waits waits = tt
waits_for_row rows target (stages.Lives flags row) waits = absurd (cc)
waits_for_row rows target (stages.Ends row) waits = tt
waits_for_row rows target (stages.Done received) waits = tt
waits_for_row rows target stages.Over waits = tt

-- what is kept of it
abbrev pub awaited : Side → ℕ → Recv → kept_receives.OpenReceive
awaited side id recv = record { id = id; side = side; recv = recv }

-- the receive, which was fed nothing
abbrev pub unfed : Side → ℕ → RecvAsk → OpenReceive
unfed side id ask = record { id = id; side = side; ask = ask; text = []; stage = Waits }

pub begun_waits : (side : Side) (id : ℕ) (kept : Kept) (pool : Pool) (ask : RecvAsk) (recv : Recv) → IsFresh kept.state.dir ask recv → ReceiveStandsOn true kept pool (awaited side id recv) (unfed side id ask)
begun_waits side id kept pool ask recv is = record {
  id = refl;
  side = refl;
  ask = is.ask;
  live = is.live;
  fits = is.fits;
  row = waits_for_row kept.state.dir recv.ask.target recv.stage is.waiting;
  fed = is.fed;
  receives = λ works. is.opens (bound_of true pool.number) kept.disk.seen (free_by kept.state.body);
}

-- and is in its ranges
pub begun_fits : (side : Side) (id : ℕ) (rows : Rows) (ask : RecvAsk) (recv : Recv) → IsFresh rows ask recv → ReceiveFits rows (awaited side id recv)
begun_fits side id rows ask recv is = record {
  live = is.live;
  fits = is.fits;
  row = waits_for_row rows recv.ask.target recv.stage is.waiting;
  fed = ([], ([], record { stands = is.stands; whole = nothing_read }));
}

-- ---- steps

module _ (now : ℕ) (side : Side) (id : ℕ) (ask : RecvAsk) (world : World)
    (here there here' there' : Kept) (read_here : WasOnlyRead here here') (read_there : WasOnlyRead there there')
    (sends : List kept_sends.OpenSend) (receives : List kept_receives.OpenReceive) (stands : Stands true here there sends receives world) (keep : MovesKeepWorlds)
    (mark : here'.failed ≡ here.failed) (also : there'.failed ≡ there.failed) where
  abbrev done : Moved
  done = answers (number_line side world) (with_receive (unfed side id ask) world)

  abbrev refusal_here : Option Refusal
  refusal_here = receive_refusal (at_side side world).failed (coded_in_the_way side id ask.target sends receives) (length receives)

  -- E31, E5 and E23 of a receive come where the definition says so
  pub moves_so : moved now (events.Receive side id ask) world ≡ or_refused refusal_here world done
  unfolding moved
  moves_so =
      defined_so world done (at_side side world).failed (in_the_way side id ask.target world)
      ∙ ap (λ (n : ℕ). way_tested world done (at_side side world).failed (in_the_way side id ask.target world) (nat_lt n most_receives)) (sym (receives_alike here there sends receives world stands))
      ∙ ap (λ (way : Option ℕ). way_tested world done (at_side side world).failed way (nat_lt (length receives) most_receives)) (sym (way_alike side here there sends receives world stands id ask.target))
      ∙ tested_so world done (at_side side world).failed (coded_in_the_way side id ask.target sends receives) (length receives)

  pub refused_so : (refusal : Refusal) → refusal_here ≡ Some refusal → Steps true now world (events.Receive side id ask) here there here' there' sends receives (Err refusal)
  refused_so refusal why =
      stays now (events.Receive side id ask) world here there here' there' read_here read_there sends receives stands keep (Err refusal)
      (as_defined now (events.Receive side id ask) world (refuses refusal world) (λ of is. cc is) (moves_so ∙ ap (λ (o : Option Refusal). or_refused o world done) why)) mark also

  -- no memory is left
  pub lacks_memory : Steps true now world (events.Receive side id ask) here there here' there' sends receives (Err refusals.OutOfMemory)
  lacks_memory =
      stays now (events.Receive side id ask) world here there here' there' read_here read_there sends receives stands keep (Err refusals.OutOfMemory) (FindsNoMemory refl refl) mark also

  -- one that was begun comes behind the others, or no memory is left
  pub added_receive : (recv : Recv) (number : ℕ) → refusal_here ≡ None → number ≡ (at_side side world).pool.number → IsFresh (kept_at side here' there').state.dir ask recv
      → (claims : List kept_receives.OpenReceive) (result : Result EventReply Refusal) → AddsReceive (awaited side id recv) number receives claims result
      → Steps true now world (events.Receive side id ask) here there here' there' sends claims (answer_of result)
  added_receive recv number free numbered fresh claims result (LacksMemory is same) =
      subst (λ (r : Result EventReply Refusal). Steps true now world (events.Receive side id ask) here there here' there' sends claims (answer_of r)) (sym is)
      (subst (λ (c : List kept_receives.OpenReceive). Steps true now world (events.Receive side id ask) here there here' there' sends c (Err refusals.OutOfMemory)) (sym same) lacks_memory)
  added_receive recv number free numbered fresh claims result (Admits is same) =
      subst (λ (r : Result EventReply Refusal). Steps true now world (events.Receive side id ask) here there here' there' sends claims (answer_of r)) (sym is)
      (subst (λ (c : List kept_receives.OpenReceive). Steps true now world (events.Receive side id ask) here there here' there' sends c (opened_line number)) (sym same)
      (receives_more now (events.Receive side id ask) world here there here' there' read_here read_there sends receives stands keep (opened_line number) (awaited side id recv) (unfed side id ask)
      (subst (λ (a : Answer). Moves now world (events.Receive side id ask) a (with_receive (unfed side id ask) world)) (sym (ap opened_line numbered))
      (as_defined now (events.Receive side id ask) world done (λ of is. cc is) (moves_so ∙ ap (λ (o : Option Refusal). or_refused o world done) free))) mark also
      (begun_waits side id (kept_at side here' there') (at_side side world).pool ask recv fresh)))
