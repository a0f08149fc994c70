-- The events of the engine that open a session.
use Rattle.std.proofs.Common.{◌≡◌, ◌≢◌, ◌||◌, ◌∷◌, ℕ, Bool, true, false, cond, nat_lt, List, [], length, Option, Some, None, Result, Ok, Err, refl, sym, ap, ◌∙◌, subst}
use Rattle.std.specs.List.{All, AllPairs}
use Rattle.std.proofs.lemmas.List.Elements.{All-append, All-cons, All-nil}
use Rattle.zst_outside.specs.declared.disk.Disk.{Ghosts}
use Rattle.zst_block.specs.IoCalls.{fails}
use Rattle.zst_block.specs.IoStates.{disk_of}
use Rattle.zst_dir.specs.RowNames.{AreNamed}
use Rattle.zst_image.specs.declared.pool_state.PoolState.{PoolState}
use Rattle.zst_model.specs.declared.refusals.faults.Quantity.TheVariants as quantities
use Rattle.zst_model.specs.declared.refusals.plan_fault.PlanFault.{PlanFault}
use Rattle.zst_model.specs.declared.refusals.refusal.Refusal.{Refusal}
use Rattle.zst_model.specs.declared.refusals.refusal.Refusal.TheVariants as refusals
use Rattle.zst_model.specs.declared.sends.ask.SendAsk.{SendAsk}
use Rattle.zst_model.specs.declared.sends.header.Point.{Point}
use Rattle.zst_model.specs.pools.Pool.{Pool as Plain}
use Rattle.zst_model.specs.pools.Sessions.{busy_session}
use Rattle.zst_model.specs.refusals.Refusal.{refusal_of}
use Rattle.zst_model.specs.sends.Headers.{Sent}
use Rattle.zst_model.specs.sends.SendPlan.{send_plan, with_list}
use Rattle.zst_plan.specs.declared.receive.RecvAsk.{RecvAsk}
use Rattle.zst_pool.proofs.PoolsAtRest.{rest_named}
use Rattle.zst_pool.specs.Faults.{pool_refusal}
use Rattle.zst_pool.specs.Queries.{stop_of}
use Rattle.zst_pool.specs.declared.fault.PoolFault.{PoolFault}
use Rattle.zst_pool.specs.declared.fault.PoolFault.TheVariants as faults
use Rattle.zst_recv.specs.FedReceives.{IsFresh}
use Rattle.zst_recv.specs.Stages.{ask_of}
use Rattle.zst_recv.specs.Tokens.{token_told}
use Rattle.zst_script.specs.declared.event.Event.{Event}
use Rattle.zst_script.specs.declared.event.Event.TheVariants as events
use Rattle.zst_script.specs.declared.event.Side.{Side}
use Rattle.zst_send.specs.Openings.{rest_of}
use Rattle.zst_send.specs.Sends.{SendFits}
use Rattle.zst_token.specs.declared.token.Token.{Token}
use Rattle.zst_sessions.proofs.LookedPools.{Looked, StepsTo, fits_still, honest_on, looked, mark_on, open_on, rest_on, same_lists, state_still}
use Rattle.zst_sessions.proofs.OpenedReceives.{added_receive, awaited, begun_fits, lacks_memory, moves_so, unfed}
use Rattle.zst_sessions.proofs.OpenedSends.{OpensSend, added_begin, both_stay, refused_begin}
use Rattle.zst_sessions.proofs.OtherEvents.{IsOther}
use Rattle.zst_sessions.proofs.PoolRefusals.{fault_of_disk, fault_of_failed, fault_of_full}
use Rattle.zst_sessions.proofs.ReadEvents.{as_defined, or_refused, stays}
use Rattle.zst_sessions.proofs.ReadPools.{read_none}
use Rattle.zst_sessions.proofs.SparedBlocks.{none_spares, read_spares}
use Rattle.zst_sessions.proofs.SessionLists.{AllPairs-snoc}
use Rattle.zst_sessions.proofs.UnmovedEngines.{stays_later}
use Rattle.zst_sessions.specs.CommandSteps.{told_as}
use Rattle.zst_sessions.specs.EngineSteps.{EngineFits, ReceiveFits, StandsFor, StepsEngine, kept_pool, target_of}
use Rattle.zst_sessions.specs.Engines.{kept_at}
use Rattle.zst_sessions.specs.EventReplies.{answer_of}
use Rattle.zst_sessions.specs.Lawfulness.{MovesKeepWorlds}
use Rattle.zst_sessions.specs.Moves.{answers, moved, most_receives, most_sends, number_line, opened_send, refuses, resumed}
use Rattle.zst_sessions.specs.Openings.{Adds, AddsReceive, AddsSend, Admits, BeginsAt, HasNoMemory, IsRefused, LacksMemory, LooksAtSide, TellsToken, coded_in_the_way, is_coded_used, kept_on, opened_of, receive_refusal, send_refusal}
use Rattle.zst_sessions.specs.World.{World, at_side, other_side, with_receive}
use Rattle.zst_sessions.specs.declared.engine.Engine.{Engine}
use Rattle.zst_sessions.specs.declared.event_reply.EventReply.{EventReply}
use Rattle.zst_sessions.specs.declared.open_sessions.OpenReceive as kept_receives
use Rattle.zst_sessions.specs.declared.open_sessions.OpenSend as kept_sends
use Rattle.zst_sessions.specs.declared.openings.Awaited.{Awaited}
use Rattle.zst_sessions.specs.declared.openings.Begun.{Begun}

-- ---- refusals

-- a send is refused for its id or for the count of sends alone
id_refusal : (id : ℕ) (sends : List kept_sends.OpenSend) (receives : List kept_receives.OpenReceive) (refusal : Refusal) → send_refusal id sends receives ≡ Some refusal
    → (¬ (refusal ≡ refusals.DiskFault)) × (¬ (refusal ≡ refusals.Failed)) × ((need largest : ℕ) → ¬ (refusal ≡ refusals.Full need largest))
id_refusal id sends receives refusal = go (is_coded_used id sends receives) (nat_lt (length sends) most_sends)
  where
    go : (used few : Bool) → cond used (Some (busy_session id)) (cond few None (Some (refusals.Limit quantities.Sends most_sends))) ≡ Some refusal
        → (¬ (refusal ≡ refusals.DiskFault)) × (¬ (refusal ≡ refusals.Failed)) × ((need largest : ℕ) → ¬ (refusal ≡ refusals.Full need largest))
    go true few is = (λ same. absurd (cc), λ same. absurd (cc), λ need largest same. absurd (cc))
    go false true is = absurd (cc)
    go false false is = (λ same. absurd (cc), λ same. absurd (cc), λ need largest same. absurd (cc))

-- so a send that comes behind the others, or doesn't, loses no disk, and finds none lost and none full
added_no_fault : (one : kept_sends.OpenSend) (number : ℕ) (receives : List kept_receives.OpenReceive) (old new : List kept_sends.OpenSend) (result : Result EventReply Refusal) → AddsSend one number receives old new result
    → (¬ (result ≡ Err refusals.DiskFault)) × (¬ (result ≡ Err refusals.Failed)) × ((need largest : ℕ) → ¬ (result ≡ Err (refusals.Full need largest)))
added_no_fault one number receives old new result (IsRefused refusal why is same) =
    let no = id_refusal one.id old receives refusal why in
    (λ fault. no.0 (let e : refusal ≡ refusals.DiskFault = cc in e), λ fault. no.1 (let e : refusal ≡ refusals.Failed = cc in e), λ need largest full. no.2 need largest (let e : refusal ≡ refusals.Full need largest = cc in e))
added_no_fault one number receives old new result (HasNoMemory is same) = (λ fault. absurd (cc), λ fault. absurd (cc), λ need largest full. absurd (cc))
added_no_fault one number receives old new result (Adds why is same) = (λ fault. absurd (cc), λ fault. absurd (cc), λ need largest full. absurd (cc))

received_no_fault : (one : kept_receives.OpenReceive) (number : ℕ) (old new : List kept_receives.OpenReceive) (result : Result EventReply Refusal) → AddsReceive one number old new result
    → (¬ (result ≡ Err refusals.DiskFault)) × (¬ (result ≡ Err refusals.Failed)) × ((need largest : ℕ) → ¬ (result ≡ Err (refusals.Full need largest)))
received_no_fault one number old new result (LacksMemory is same) = (λ fault. absurd (cc), λ fault. absurd (cc), λ need largest full. absurd (cc))
received_no_fault one number old new result (Admits is same) = (λ fault. absurd (cc), λ fault. absurd (cc), λ need largest full. absurd (cc))

-- a receive is refused as E31 only where its pool had failed, and never as E24 or E28
way_refusal : (failed : Bool) (way : Option ℕ) (count : ℕ) (refusal : Refusal) → receive_refusal failed way count ≡ Some refusal → (¬ (refusal ≡ refusals.DiskFault)) × (failed ≡ false → ¬ (refusal ≡ refusals.Failed)) × ((need largest : ℕ) → ¬ (refusal ≡ refusals.Full need largest))
way_refusal true way count refusal is = (λ same. absurd (cc), λ works. absurd (cc), λ need largest same. absurd (cc))
way_refusal false (Some other) count refusal is = (λ same. absurd (cc), λ works same. absurd (cc), λ need largest same. absurd (cc))
way_refusal false None count refusal is = go (nat_lt count most_receives) is
  where
    go : (few : Bool) → cond few None (Some (refusals.Limit quantities.Receives most_receives)) ≡ Some refusal → (¬ (refusal ≡ refusals.DiskFault)) × (false ≡ false → ¬ (refusal ≡ refusals.Failed)) × ((need largest : ℕ) → ¬ (refusal ≡ refusals.Full need largest))
    go true is = absurd (cc)
    go false is = (λ same. absurd (cc), λ works same. absurd (cc), λ need largest same. absurd (cc))

-- a receive that isn't refused finds its pool open
way_free : (failed : Bool) (way : Option ℕ) (count : ℕ) → receive_refusal failed way count ≡ None → failed ≡ false
way_free true way count is = absurd (cc)
way_free false way count is = refl

-- ---- answers

-- refusals that are answered alike are the same
err_is : (one other : Refusal) → (let result : Result EventReply Refusal = Err one in result) ≡ Err other → one ≡ other
err_is one other is = cc

pool_err_is : (one other : PoolFault) → (let result : Result Begun PoolFault = Err one in result) ≡ Err other → one ≡ other
pool_err_is one other is = cc

token_err_is : (one other : Refusal) → (let result : Result Token Refusal = Err one in result) ≡ Err other → one ≡ other
token_err_is one other is = cc

-- what is told of a token
told_ok : (token : Token) (told : Result Token PlanFault) → Ok token ≡ told_as told → told ≡ Ok token
told_ok token (Ok one) is = ap (λ (t : Token). ok t) (let e : one ≡ token = cc in e)
  where
    ok : Token → Result Token PlanFault
    ok t = Ok t
told_ok token (Err fault) is = absurd (cc)

told_err : (refusal : Refusal) (told : Result Token PlanFault) → Err refusal ≡ told_as told → (fault : PlanFault) × (told ≡ Err fault) × (refusal ≡ refusal_of fault)
told_err refusal (Ok token) is = absurd (cc)
told_err refusal (Err fault) is = (fault, refl, let e : refusal ≡ refusal_of fault = cc in e)

module _ {D E : Type 0} {g : Ghosts D} {h : Ghosts E} where
  -- ---- an event that does nothing

  -- a refusal that leaves all as it was
  pub refuses_all : (event : Event) (old : Engine D E g h) (refusal : Refusal) → IsOther event → EngineFits old → MovesKeepWorlds → ((world : World) → StandsFor old world → moved old.now event world ≡ refuses refusal world)
      → ¬ (refusal ≡ refusals.DiskFault) → (old.here.io.failed ≡ false → old.there.io.failed ≡ false → ¬ (refusal ≡ refusals.Failed))
      → ((need largest : ℕ) → ¬ (refusal ≡ refusals.Full need largest)) → StepsEngine event old old (Err refusal)
  refuses_all event old refusal other fits keep defined no_fault still never_full = record {
    steps = λ world honest also tells tells_too stands.
        stays old.now event world (kept_pool old.here) (kept_pool old.there) (kept_pool old.here) (kept_pool old.there) (read_none (kept_pool old.here)) (read_none (kept_pool old.there))
        old.sends.items old.receives.items stands keep (Err refusal) (as_defined old.now event world (refuses refusal world) other (defined world stands)) refl refl;
    fits = fits;
    later = record { here = stays_later old.here; there = stays_later old.there; time = refl };
    cause = λ is. absurd (no_fault (err_is refusal refusals.DiskFault is));
    open_still = λ works also is. still works also (err_is refusal refusals.Failed is);
    checks = λ of running is honest. absurd (other of is);
    works = λ alive. (λ works. works, λ works. works);
    here_spares = λ no_reclaim. none_spares (kept_pool old.here);
    there_spares = λ no_reclaim. none_spares (kept_pool old.there);
    full = λ need largest is. absurd (never_full need largest (err_is refusal (refusals.Full need largest) is));
  }

  -- ---- an event that opens a send

  -- This event opens a send of what its plan gives, in each world that the engine stands for whose pool is open; one that has failed answers E31.
  pub record OpensAt (event : Event) (side : Side) (id : ℕ) (start : Option Point) (plan : Plain → Result Sent PlanFault) (old : Engine D E g h) : Type 0 where
    pub other : IsOther event
    pub opens : (world : World) → StandsFor old world → (at_side side world).failed ≡ false → OpensSend old.now event side id start (plan (at_side side world).pool) world
    pub failed : (world : World) → StandsFor old world → (at_side side world).failed ≡ true → moved old.now event world ≡ refuses refusals.Failed world

  module _ (event : Event) (side : Side) (id : ℕ) (start : Option Point) (plan : Plain → Result Sent PlanFault) (old mid : Engine D E g h) (opens : OpensAt event side id start plan old)
      (fits : EngineFits old) (keep : MovesKeepWorlds) where
    -- a pool that had failed
    had_failed_so : (fault : PoolFault) → Looked {T = Begun} side old mid (Err fault) → (world : World) → StandsFor old world → (kept_on side old).failed ≡ true
        → StepsTo event old mid world old.sends.items old.receives.items (Err (pool_refusal fault))
    had_failed_so fault l world stands fell =
        let e : fault ≡ faults.Failed = pool_err_is fault faults.Failed (l.had_failed fell) in
        let mark = l.own ∙ ap (λ (b : Bool). b || fails (stop_of {T = Begun} (Err fault))) fell ∙ sym fell in
        let both = both_stay side (kept_pool old.here) (kept_pool old.there) (kept_pool mid.here) (kept_pool mid.there) mark l.other in
        subst (λ (f : PoolFault). StepsTo event old mid world old.sends.items old.receives.items (Err (pool_refusal f))) (sym e)
        (stays old.now event world (kept_pool old.here) (kept_pool old.there) (kept_pool mid.here) (kept_pool mid.there) l.here l.there old.sends.items old.receives.items stands keep (Err refusals.Failed)
        (as_defined old.now event world (refuses refusals.Failed world) opens.other (opens.failed world stands (sym (mark_on side old world stands) ∙ fell))) both.0 both.1)

    -- the send wasn't begun
    pub send_refused : (fault : PoolFault) → BeginsAt side start plan old mid (Err fault) → StepsEngine event old mid (Err (pool_refusal fault))
    send_refused fault begins =
        let l = looked side old mid (Err fault) begins.looks in
        record {
          steps = λ world honest also tells tells_too stands.
              same_lists event old mid world (Err (pool_refusal fault)) old.sends.items mid.sends.items old.receives.items mid.receives.items l.sends l.receives
              (go l world honest also stands (kept_on side old).failed refl);
          fits = fits_still side old mid (Err fault) l fits;
          later = l.later;
          cause = λ is. l.cause (ap err (fault_of_disk fault (err_is (pool_refusal fault) refusals.DiskFault is)));
          open_still = λ works other is. l.open_still (open_on side old works other) (ap err (fault_of_failed fault (err_is (pool_refusal fault) refusals.Failed is)));
          checks = λ of running is honest. absurd (opens.other of is);
          works = λ alive. l.works (λ is. alive (ap told_fault (pool_err_is fault faults.DiskFault is)));
          here_spares = λ no_reclaim. read_spares (kept_pool old.here) (kept_pool mid.here) l.here;
          there_spares = λ no_reclaim. read_spares (kept_pool old.there) (kept_pool mid.there) l.there;
          full = λ need largest is. absurd (l.never_full need largest (ap err (fault_of_full fault need largest (err_is (pool_refusal fault) (refusals.Full need largest) is))));
        }
      where
        err : PoolFault → Result Begun PoolFault
        err f = Err f

        told_fault : PoolFault → Result EventReply Refusal
        told_fault f = Err (pool_refusal f)

        go : Looked {T = Begun} side old mid (Err fault) → (world : World) → (disk_of mid.here.io).honest → (disk_of mid.there.io).honest → StandsFor old world → (failed : Bool) → (kept_on side old).failed ≡ failed
            → StepsTo event old mid world old.sends.items old.receives.items (Err (pool_refusal fault))
        go l world honest also stands true fell = had_failed_so fault l world stands fell
        go l world honest also stands false works =
            refused_begin old.now event side id start (plan (at_side side world).pool) world (opens.opens world stands (sym (mark_on side old world stands) ∙ works))
            (kept_pool old.here) (kept_pool old.there) (kept_pool mid.here) (kept_pool mid.there) l.here l.there old.sends.items old.receives.items stands keep works l.other fault
            (begins.begins (at_side side world).pool (honest_on side mid honest also) works (rest_on side old world stands works))
            (l.own ∙ ap (λ (b : Bool). b || fails (stop_of {T = Begun} (Err fault))) works)

    module _ (begun : Begun) (new : Engine D E g h) (result : Result EventReply Refusal) (begins : BeginsAt side start plan old mid (Ok begun))
        (adds : AddsSend (opened_of side id begun) begun.number mid.receives.items mid.sends.items new.sends.items result) where
      -- the engine with the sends that there are then
      abbrev next : Engine D E g h
      next = record mid { sends = new.sends }

      l : Looked {T = Begun} side old mid (Ok begun)
      l = looked side old mid (Ok begun) begins.looks

      old_adds : AddsSend (opened_of side id begun) begun.number old.receives.items old.sends.items new.sends.items result
      old_adds =
          subst (λ (receives : List kept_receives.OpenReceive). AddsSend (opened_of side id begun) begun.number receives old.sends.items new.sends.items result) l.receives
          (subst (λ (sends : List kept_sends.OpenSend). AddsSend (opened_of side id begun) begun.number mid.receives.items sends new.sends.items result) l.sends adds)

      added_to : (world : World) → (disk_of mid.here.io).honest → (disk_of mid.there.io).honest → StandsFor old world → (failed : Bool) → (kept_on side old).failed ≡ failed
          → StepsTo event old mid world new.sends.items old.receives.items (answer_of result)
      added_to world honest also stands true fell = absurd (let bad = l.had_failed fell in cc (bad))
      added_to world honest also stands false works =
          added_begin old.now event side id start (plan (at_side side world).pool) world (opens.opens world stands (sym (mark_on side old world stands) ∙ works))
          (kept_pool old.here) (kept_pool old.there) (kept_pool mid.here) (kept_pool mid.there) l.here l.there old.sends.items old.receives.items stands keep works l.other begun begins.fits
          (begins.begins (at_side side world).pool (honest_on side mid honest also) works (rest_on side old world stands works))
          (l.own ∙ ap (λ (b : Bool). b || false) works) new.sends.items result old_adds

      sends_fit_so : (more : List kept_sends.OpenSend) → AddsSend (opened_of side id begun) begun.number mid.receives.items mid.sends.items more result
          → All (λ one. SendFits one.send) mid.sends.items → All (λ one. SendFits one.send) more
      sends_fit_so more (IsRefused refusal why is same) all = subst (All (λ (one : kept_sends.OpenSend). SendFits one.send)) (sym same) all
      sends_fit_so more (HasNoMemory is same) all = subst (All (λ (one : kept_sends.OpenSend). SendFits one.send)) (sym same) all
      sends_fit_so more (Adds why is same) all =
          subst (All (λ (one : kept_sends.OpenSend). SendFits one.send)) (sym same)
          (All-append (λ (one : kept_sends.OpenSend). SendFits one.send) mid.sends.items (opened_of side id begun ∷ []) all
          (All-cons (λ (one : kept_sends.OpenSend). SendFits one.send) (opened_of side id begun) [] begins.fits (All-nil (λ (one : kept_sends.OpenSend). SendFits one.send))))

      -- the send was begun, and comes behind the others or doesn't
      pub send_added : new ≡ record mid { sends = new.sends } → StepsEngine event old new result
      send_added rest =
          let still = fits_still side old mid (Ok begun) l fits in
          let no = added_no_fault (opened_of side id begun) begun.number mid.receives.items mid.sends.items new.sends.items result adds in
          subst (λ (e : Engine D E g h). StepsEngine event old e result) (sym rest)
          (let made : StepsEngine event old next result = record {
            steps = λ world honest also tells tells_too stands.
                same_lists event old mid world (answer_of result) new.sends.items new.sends.items old.receives.items mid.receives.items refl l.receives
                (added_to world honest also stands (kept_on side old).failed refl);
            fits = record {
              sessions = record {
                here_ready = still.sessions.here_ready;
                there_ready = still.sessions.there_ready;
                sends_fit = sends_fit_so new.sends.items adds still.sessions.sends_fit;
                receives_fit = still.sessions.receives_fit;
                targets = still.sessions.targets;
              };
              room = still.room;
            };
            later = record { here = l.later.here; there = l.later.there; time = l.later.time };
            cause = λ is. absurd (no.0 is);
            open_still = λ works also is. no.1 is;
            checks = λ of running is honest. absurd (opens.other of is);
            works = λ alive. l.works (λ is. absurd (cc));
            here_spares = λ no_reclaim. read_spares (kept_pool old.here) (kept_pool mid.here) l.here;
            there_spares = λ no_reclaim. read_spares (kept_pool old.there) (kept_pool mid.there) l.there;
            full = λ need largest is. absurd (no.2 need largest is);
          } in made)

  -- ---- a send by names

  -- the event opens one
  pub sends_at : (side : Side) (id : ℕ) (ask : SendAsk) (old : Engine D E g h) → OpensAt (events.Send side id ask) side id None (λ running. with_list (send_plan ask running)) old
  unfolding moved
  sends_at side id ask old = record {
    other = λ of is. cc is;
    opens = λ world stands works. record {
      other = λ of is. cc is;
      opens = ap (λ (b : Bool). cond b (refuses refusals.Failed world) (opened_send side id None world (with_list (send_plan ask (at_side side world).pool)))) works;
      given = refl;
      loses = λ next fails. fails;
    };
    failed = λ world stands fell. ap (λ (b : Bool). cond b (refuses refusals.Failed world) (opened_send side id None world (with_list (send_plan ask (at_side side world).pool)))) fell;
  }

  -- ---- a send of what is left

  module _ (side : Side) (id : ℕ) (dataset : List ℕ) (old : Engine D E g h) where
    -- what the event does, by the marks of both pools and by the token that is told
    resumes_as : (now : ℕ) (world : World) (mark other : Bool) → (at_side side world).failed ≡ mark → (at_side (other_side side) world).failed ≡ other
        → moved now (events.Resume side id dataset) world
        ≡ cond mark (refuses refusals.Failed world) (cond other (refuses refusals.Failed world) (resumed side id world (token_told dataset (at_side (other_side side) world).pool)))
    unfolding moved
    resumes_as now world mark other own also =
        ap (λ (b : Bool). cond b (refuses refusals.Failed world)
        (cond (at_side (other_side side) world).failed (refuses refusals.Failed world) (resumed side id world (token_told dataset (at_side (other_side side) world).pool)))) own
        ∙ ap (λ (b : Bool). cond mark (refuses refusals.Failed world) (cond b (refuses refusals.Failed world) (resumed side id world (token_told dataset (at_side (other_side side) world).pool)))) also

    -- the rows of the other pool name what that lists
    other_named : (world : World) → StandsFor old world → (kept_on (other_side side) old).failed ≡ false → AreNamed (kept_on (other_side side) old).state.dir (at_side (other_side side) world).pool
    other_named world stands works =
        (rest_named (kept_on (other_side side) old).disk (kept_on (other_side side) old).state (at_side (other_side side) world).pool (rest_on (other_side side) old world stands works)).are_named

    module _ (works : (kept_on side old).failed ≡ false) where
      own_works : (world : World) → StandsFor old world → (at_side side world).failed ≡ false
      own_works world stands = sym (mark_on side old world stands) ∙ works

      -- the event opens a send by the token that is told
      pub resumes_at : (token : Token) → TellsToken dataset (kept_on (other_side side) old) (Ok token)
          → OpensAt (events.Resume side id dataset) side id (Some token.point) (λ running. with_list (rest_of token running)) old
      resumes_at token tells = record {
        other = λ of is. cc is;
        opens = λ world stands alive. record {
          other = λ of is. cc is;
          opens =
              resumes_as old.now world false false alive (sym (mark_on (other_side side) old world stands) ∙ other_works (kept_on (other_side side) old).failed refl)
              ∙ ap (resumed side id world) (told_ok token (token_told dataset (at_side (other_side side) world).pool)
              (tells.told (other_works (kept_on (other_side side) old).failed refl) (at_side (other_side side) world).pool (other_named world stands (other_works (kept_on (other_side side) old).failed refl))));
          given = refl;
          loses = λ next fails. fails;
        };
        failed = λ world stands fell. absurd (let alive = own_works world stands in cc (alive, fell));
      }
        where
          other_works : (failed : Bool) → (kept_on (other_side side) old).failed ≡ failed → (kept_on (other_side side) old).failed ≡ false
          other_works true fell = absurd (let bad = tells.had_failed fell in cc (bad))
          other_works false is = is

      -- or no token is told
      pub token_refused : (refusal : Refusal) → TellsToken dataset (kept_on (other_side side) old) (Err refusal) → EngineFits old → MovesKeepWorlds → StepsEngine (events.Resume side id dataset) old old (Err refusal)
      token_refused refusal tells fits keep =
          refuses_all (events.Resume side id dataset) old refusal (λ of is. cc is) fits keep (λ world stands. go world stands (kept_on (other_side side) old).failed refl)
          (λ is. tells.no_fault (ap err is)) (λ here there is. tells.open_still (open_on (other_side side) old here there) (ap err is)) (λ need largest is. tells.never_full need largest (ap err is))
        where
          err : Refusal → Result Token Refusal
          err r = Err r

          go : (world : World) → StandsFor old world → (failed : Bool) → (kept_on (other_side side) old).failed ≡ failed → moved old.now (events.Resume side id dataset) world ≡ refuses refusal world
          go world stands true fell =
              resumes_as old.now world false true (own_works world stands) (sym (mark_on (other_side side) old world stands) ∙ fell)
              ∙ ap (λ (r : Refusal). refuses r world) (sym (token_err_is refusal refusals.Failed (tells.had_failed fell)))
          go world stands false alive =
              let told = told_err refusal (token_told dataset (at_side (other_side side) world).pool) (tells.told alive (at_side (other_side side) world).pool (other_named world stands alive)) in
              resumes_as old.now world false false (own_works world stands) (sym (mark_on (other_side side) old world stands) ∙ alive)
              ∙ ap (resumed side id world) told.1 ∙ ap (λ (r : Refusal). refuses r world) (sym told.2)

    -- or the pool itself had failed
    pub resume_failed : (kept_on side old).failed ≡ true → EngineFits old → MovesKeepWorlds → StepsEngine (events.Resume side id dataset) old old (Err refusals.Failed)
    resume_failed fell fits keep =
        refuses_all (events.Resume side id dataset) old refusals.Failed (λ of is. cc is) fits keep
        (λ world stands. resumes_as old.now world true (at_side (other_side side) world).failed (sym (mark_on side old world stands) ∙ fell) refl)
        (λ is. absurd (cc)) (λ here there is. let alive = open_on side old here there in absurd (cc (alive, fell))) (λ need largest is. absurd (cc))

  -- ---- a receive

  module _ (side : Side) (id : ℕ) (ask : RecvAsk) (old : Engine D E g h) (fits : EngineFits old) (keep : MovesKeepWorlds) where
    abbrev event : Event
    event = events.Receive side id ask

    abbrev way : Option ℕ
    way = coded_in_the_way side id ask.target old.sends.items old.receives.items

    abbrev refusal_of_all : Option Refusal
    refusal_of_all = receive_refusal (kept_on side old).failed way (length old.receives.items)

    -- so the definition says of each world
    refusal_in : (world : World) → StandsFor old world → receive_refusal (at_side side world).failed way (length old.receives.items) ≡ refusal_of_all
    refusal_in world stands = ap (λ (b : Bool). receive_refusal b way (length old.receives.items)) (sym (mark_on side old world stands))

    -- it may not be opened
    pub receive_refused : (refusal : Refusal) → Some refusal ≡ refusal_of_all → StepsEngine (events.Receive side id ask) old old (Err refusal)
    receive_refused refusal told =
        let why : refusal_of_all ≡ Some refusal = sym told in
        let no = way_refusal (kept_on side old).failed way (length old.receives.items) refusal why in
        refuses_all event old refusal (λ of is. cc is) fits keep
        (λ world stands.
        moves_so old.now side id ask world (kept_pool old.here) (kept_pool old.there) (kept_pool old.here) (kept_pool old.there) (read_none (kept_pool old.here)) (read_none (kept_pool old.there))
        old.sends.items old.receives.items stands keep refl refl
        ∙ ap (λ (o : Option Refusal). or_refused o world (answers (number_line side world) (with_receive (unfed side id ask) world))) (refusal_in world stands ∙ why))
        no.0 (λ here there. no.1 (open_on side old here there)) no.2

    module _ (mid : Engine D E g h) (told : Option Refusal) (is_told : told ≡ refusal_of_all) (none : told ≡ None) where
      free : refusal_of_all ≡ None
      free = sym is_told ∙ none

      works : (kept_on side old).failed ≡ false
      works = way_free (kept_on side old).failed way (length old.receives.items) free

      -- no memory was left for it
      no_memory : LooksAtSide {T = Awaited} side old mid (Err faults.OutOfMemory) → StepsEngine (events.Receive side id ask) old mid (Err refusals.OutOfMemory)
      no_memory looks =
          let l = looked side old mid (Err faults.OutOfMemory) looks in
          let both = both_stay side (kept_pool old.here) (kept_pool old.there) (kept_pool mid.here) (kept_pool mid.there) (l.own ∙ ap (λ (b : Bool). b || false) works ∙ sym works) l.other in
          record {
            steps = λ world honest also tells tells_too stands.
                same_lists event old mid world (Err refusals.OutOfMemory) old.sends.items mid.sends.items old.receives.items mid.receives.items l.sends l.receives
                (lacks_memory old.now side id ask world (kept_pool old.here) (kept_pool old.there) (kept_pool mid.here) (kept_pool mid.there) l.here l.there old.sends.items old.receives.items stands keep both.0 both.1);
            fits = fits_still side old mid (Err faults.OutOfMemory) l fits;
            later = l.later;
            cause = λ is. absurd (cc);
            open_still = λ alive too is. absurd (cc);
            checks = λ of running is honest. absurd (cc is);
            works = λ alive. l.works (λ is. absurd (cc));
            here_spares = λ no_reclaim. read_spares (kept_pool old.here) (kept_pool mid.here) l.here;
            there_spares = λ no_reclaim. read_spares (kept_pool old.there) (kept_pool mid.there) l.there;
            full = λ need largest is. absurd (cc);
          }

      pub receive_unbegun : (fault : PoolFault) → ((kept_on side old).failed ≡ false → fault ≡ faults.OutOfMemory) → LooksAtSide {T = Awaited} side old mid (Err fault) → StepsEngine (events.Receive side id ask) old mid (Err (pool_refusal fault))
      receive_unbegun fault is looks =
          subst (λ (f : PoolFault). StepsEngine (events.Receive side id ask) old mid (Err (pool_refusal f))) (sym (is works))
          (no_memory (subst (λ (f : PoolFault). LooksAtSide {T = Awaited} side old mid (Err f)) (is works) looks))

      module _ (begun : Awaited) (new : Engine D E g h) (result : Result EventReply Refusal) (looks : LooksAtSide side old mid (Ok begun))
          (fresh : IsFresh (kept_on side old).state.dir ask begun.recv) (numbered : begun.number ≡ (kept_on side old).state.body.uber.number)
          (apart : All (λ one. one.side ≡ side → target_of one ≢ ask.target) old.receives.items)
          (adds : AddsReceive (awaited side id begun.recv) begun.number mid.receives.items new.receives.items result) where
        abbrev with_received : Engine D E g h
        with_received = record mid { receives = new.receives }

        look : Looked {T = Awaited} side old mid (Ok begun)
        look = looked side old mid (Ok begun) looks

        old_receives : AddsReceive (awaited side id begun.recv) begun.number old.receives.items new.receives.items result
        old_receives = subst (λ (receives : List kept_receives.OpenReceive). AddsReceive (awaited side id begun.recv) begun.number receives new.receives.items result) look.receives adds

        still_fresh : IsFresh (kept_on side mid).state.dir ask begun.recv
        still_fresh = subst (λ (state : PoolState). IsFresh state.dir ask begun.recv) (sym (state_still side old mid (Ok begun) look)) fresh

        received_to : (world : World) → StandsFor old world → StepsTo event old mid world old.sends.items new.receives.items (answer_of result)
        received_to world stands =
            let both = both_stay side (kept_pool old.here) (kept_pool old.there) (kept_pool mid.here) (kept_pool mid.there) (look.own ∙ ap (λ (b : Bool). b || false) works ∙ sym works) look.other in
            added_receive old.now side id ask world (kept_pool old.here) (kept_pool old.there) (kept_pool mid.here) (kept_pool mid.there) look.here look.there old.sends.items old.receives.items stands keep both.0 both.1
            begun.recv begun.number (refusal_in world stands ∙ free)
            (numbered ∙ sym (rest_named (kept_on side old).disk (kept_on side old).state (at_side side world).pool (rest_on side old world stands works)).number)
            still_fresh new.receives.items result old_receives

        abbrev Fits : kept_receives.OpenReceive → Type 0
        Fits one = ReceiveFits (kept_at one.side (kept_pool mid.here) (kept_pool mid.there)).state.dir one

        abbrev Apart : kept_receives.OpenReceive → kept_receives.OpenReceive → Type 0
        Apart a b = a.side ≡ b.side → target_of a ≢ target_of b

        receives_fit_so : (more : List kept_receives.OpenReceive) → AddsReceive (awaited side id begun.recv) begun.number mid.receives.items more result → All Fits mid.receives.items → All Fits more
        receives_fit_so more (LacksMemory is same) all = subst (All Fits) (sym same) all
        receives_fit_so more (Admits is same) all =
            subst (All Fits) (sym same)
            (All-append Fits mid.receives.items (awaited side id begun.recv ∷ []) all
            (All-cons Fits (awaited side id begun.recv) [] (begun_fits side id (kept_on side mid).state.dir ask begun.recv still_fresh) (All-nil Fits)))

        targets_so : (more : List kept_receives.OpenReceive) → AddsReceive (awaited side id begun.recv) begun.number mid.receives.items more result → AllPairs Apart mid.receives.items → AllPairs Apart more
        targets_so more (LacksMemory is same) pairs = subst (AllPairs Apart) (sym same) pairs
        targets_so more (Admits is same) pairs =
            subst (AllPairs Apart) (sym same)
            (AllPairs-snoc Apart mid.receives.items (awaited side id begun.recv) pairs
            (subst (All (λ (one : kept_receives.OpenReceive). one.side ≡ side → target_of one ≢ (ask_of begun.recv).target)) (sym look.receives)
            (λ k d lt sides targets. apart k d lt sides (targets ∙ ap (λ (asked : RecvAsk). asked.target) fresh.ask))))

        -- it was begun, and comes behind the others or doesn't
        pub receive_added : new ≡ record mid { receives = new.receives } → StepsEngine (events.Receive side id ask) old new result
        receive_added rest =
            let still = fits_still side old mid (Ok begun) look fits in
            let no = received_no_fault (awaited side id begun.recv) begun.number mid.receives.items new.receives.items result adds in
            subst (λ (e : Engine D E g h). StepsEngine event old e result) (sym rest)
            (let made : StepsEngine event old with_received result = record {
              steps = λ world honest also tells tells_too stands.
                  same_lists event old mid world (answer_of result) old.sends.items mid.sends.items new.receives.items new.receives.items look.sends refl (received_to world stands);
              fits = record {
                sessions = record {
                  here_ready = still.sessions.here_ready;
                  there_ready = still.sessions.there_ready;
                  sends_fit = still.sessions.sends_fit;
                  receives_fit = receives_fit_so new.receives.items adds still.sessions.receives_fit;
                  targets = targets_so new.receives.items adds still.sessions.targets;
                };
                room = still.room;
              };
              later = record { here = look.later.here; there = look.later.there; time = look.later.time };
              cause = λ is. absurd (no.0 is);
              open_still = λ alive too is. no.1 is;
              checks = λ of running is honest. absurd (cc is);
              works = λ alive. look.works (λ is. absurd (cc));
              here_spares = λ no_reclaim. read_spares (kept_pool old.here) (kept_pool mid.here) look.here;
              there_spares = λ no_reclaim. read_spares (kept_pool old.there) (kept_pool mid.there) look.there;
              full = λ need largest is. absurd (no.2 need largest is);
            } in made)
