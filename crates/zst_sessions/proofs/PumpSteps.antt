-- What a pump makes of the engine.
use Rattle.std.proofs.Common.{◌≡◌, ◌⊎◌, inl, inr, ◌<◌, ℕ, Bool, true, false, ◌||◌, List, length, get_or, take, find, Option, Some, None, is_some, Result, Ok, Err, refl, sym, ap, ◌∙◌, subst, cond, ◌==◌, arith}
use Rattle.std.specs.Prelude.{IsTrue}
use Rattle.std.specs.List.{position}
use Rattle.std.specs.Option.{option_map_or}
use Rattle.std.proofs.lemmas.List.Quantifiers.{position-Some}
use Rattle.zst_outside.specs.Causes.{Rose, Rose-earlier}
use Rattle.zst_outside.specs.Images.{Leaves, Leaves-none, Leaves-then, Leaves-weaker}
use Rattle.zst_outside.specs.declared.disk.Disk.{Ghosts}
use Rattle.zst_block.specs.IoCalls.{fails}
use Rattle.zst_block.specs.IoStates.{disk_of}
use Rattle.zst_dir.specs.RowNames.{Match}
use Rattle.zst_dir.proofs.Matches.{is_some-position, list_any-Match}
use Rattle.zst_image.specs.Reads.{Reads}
use Rattle.zst_image.specs.declared.pool_state.PoolState.{PoolState}
use Rattle.zst_model.specs.declared.refusals.plan_fault.PlanFault.TheVariants as plans
use Rattle.zst_model.specs.declared.refusals.refusal.Refusal.{Refusal}
use Rattle.zst_model.specs.declared.refusals.refusal.Refusal.TheVariants as refusals
use Rattle.zst_model.specs.pools.KeptPool.{kept_of}
use Rattle.zst_model.specs.pools.Pool.{Pool as Plain}
use Rattle.zst_pool.specs.Partials.{without_unkept}
use Rattle.zst_pool.specs.declared.fault.PoolFault.TheVariants as pools
use Rattle.zst_pool.specs.declared.pool.Pool.{Pool}
use Rattle.zst_recv.specs.Answers.{goes_on}
use Rattle.zst_recv.specs.Costs.{PieceIsShort}
use Rattle.zst_recv.specs.Faults.{recv_refusal, stop_of}
use Rattle.zst_recv.specs.Feeds.{new_records}
use Rattle.zst_recv.specs.GoingOn.{FittingReceive, ReceivesGoOn}
use Rattle.zst_recv.specs.declared.fault.RecvFault.{RecvFault}
use Rattle.zst_recv.specs.declared.fault.RecvFault.TheVariants as faults
use Rattle.zst_recv.specs.declared.recv.FeedReport.{FeedReport}
use Rattle.zst_recv.specs.declared.recv.Recv.{Recv}
use Rattle.zst_script.specs.declared.event.Event.{Event}
use Rattle.zst_script.specs.declared.event.Event.TheVariants as events
use Rattle.zst_script.specs.declared.event.Side.{Side}
use Rattle.zst_script.specs.declared.event.Side.TheVariants.{Here, There}
use Rattle.zst_send.specs.Sends.{SendsGoOn}
use Rattle.zst_sessions.proofs.ChangedMatches.{found_at}
use Rattle.zst_sessions.proofs.ChangedSides.{same_pools}
use Rattle.zst_sessions.proofs.FedSessions.{fed_fit}
use Rattle.zst_sessions.proofs.FoundSessions.{found_there}
use Rattle.zst_sessions.proofs.OtherEvents.{IsOther}
use Rattle.zst_sessions.proofs.PumpedFeeds.{FeedSteps, feed_steps}
use Rattle.zst_sessions.proofs.PoolRefusals.{recv_full}
use Rattle.zst_sessions.proofs.RemovedSessions.{none_matched}
use Rattle.zst_sessions.proofs.SparedBlocks.{read_blocks, read_extents, read_spares, spares, still_works}
use Rattle.zst_sessions.proofs.UnmovedEngines.{nothing_done, stays_later}
use Rattle.zst_sessions.specs.EngineSteps.{EngineFits, IsLaterPool, NoneFailed, PumpIsShort, SessionsFit, SparesBlocks, StandsFor, StepsEngine, StepsWorld, here_with, kept_pool, left_on, there_with}
use Rattle.zst_sessions.specs.Engines.{BeforeOrAfter, Kept, ReceiveStandsOn, SendStandsOn, Stands, Steps, kept_at}
use Rattle.zst_sessions.specs.EventReplies.{answer_of}
use Rattle.zst_sessions.specs.FullPools.{WasFed}
use Rattle.zst_sessions.specs.Lawfulness.{MovesKeepWorlds}
use Rattle.zst_sessions.specs.Moves.{Moved, if_works, moved, no_session, on_receive, pumped, refuses}
use Rattle.zst_sessions.specs.Numbers.{NumbersRise}
use Rattle.zst_sessions.specs.Pumps.{FeedReads, FeedsKept, FeedsSide, SettlesFeed, fed_reply, settled}
use Rattle.zst_sessions.specs.Replay.{LosesDisk, Moves, image_of, TakesNoPiece}
use Rattle.zst_sessions.specs.Takes.{Gives, HadFailed, Loses, TakeEnds, Takes, TakesAt, Starves}
use Rattle.zst_sessions.specs.World.{OpenPool, OpenReceive, OpenSend, World, at_side, gone_on, next_piece, put_send, receive_with, send_with}
use Rattle.zst_sessions.specs.declared.engine.Engine.{Engine}
use Rattle.zst_sessions.specs.declared.event_reply.EventReply.{EventReply}
use Rattle.zst_sessions.specs.declared.open_sessions.OpenReceive as kept_receives
use Rattle.zst_sessions.specs.declared.open_sessions.OpenSend as kept_sends

-- ---- sessions that aren't found, and pools that failed

-- what is found at a place is found
some_found : {A B : Type 0} (Is : A → B → Type 0) (p : A → Bool) (q : B → Bool) → ((x : A) (y : B) → Is x y → p x ≡ q y) → (xs : List A) (ys : List B) → Match Is xs ys → (place : ℕ) → position p xs ≡ Some place
    → (y : B) × (find q ys ≡ Some y)
some_found {B = B} Is p q same xs ys m place some = go (find q ys) (sym (list_any-Match Is p q same xs ys m) ∙ sym (is_some-position p xs) ∙ ap is_some some)
  where
    go : (o : Option B) → is_some o ≡ true → (y : B) × (o ≡ Some y)
    go None e = absurd cc
    go (Some y) e = (y, refl)

module _ (now : ℕ) (world : World) (sends receives count : ℕ) where
  no_send : send_with sends world ≡ None → moved now (events.Pump sends receives count) world ≡ refuses (no_session sends) world
  unfolding moved
  no_send none = ap (λ (o : Option OpenSend). option_map_or (λ one. on_receive receives world (λ r. if_works one.side world (if_works r.side world (pumped count one r world)))) o (refuses (no_session sends) world)) none

  no_receive : (send : OpenSend) → send_with sends world ≡ Some send → receive_with receives world ≡ None → moved now (events.Pump sends receives count) world ≡ refuses (no_session receives) world
  unfolding moved
  no_receive send found none =
      ap (λ (o : Option OpenSend). option_map_or (λ one. on_receive receives world (λ r. if_works one.side world (if_works r.side world (pumped count one r world)))) o (refuses (no_session sends) world)) found
      ∙ ap (λ (p : Option OpenReceive). option_map_or (λ r. if_works send.side world (if_works r.side world (pumped count send r world))) p (refuses (no_session receives) world)) none

  one_failed : (send : OpenSend) (receive : OpenReceive) → send_with sends world ≡ Some send → receive_with receives world ≡ Some receive
      → ((at_side send.side world).failed || (at_side receive.side world).failed) ≡ true → moved now (events.Pump sends receives count) world ≡ refuses refusals.Failed world
  unfolding moved
  one_failed send receive found also lost =
      ap (λ (o : Option OpenSend). option_map_or (λ one. on_receive receives world (λ r. if_works one.side world (if_works r.side world (pumped count one r world)))) o (refuses (no_session sends) world)) found
      ∙ ap (λ (p : Option OpenReceive). option_map_or (λ r. if_works send.side world (if_works r.side world (pumped count send r world))) p (refuses (no_session receives) world)) also
      ∙ go (at_side send.side world).failed (at_side receive.side world).failed lost
    where
      go : (a b : Bool) → (a || b) ≡ true → cond a (refuses refusals.Failed world) (cond b (refuses refusals.Failed world) (pumped count send receive world)) ≡ refuses refusals.Failed world
      go true b e = refl
      go false true e = refl
      go false false e = absurd cc

-- ---- which fault a reply is

abbrev refused : Refusal → Result EventReply Refusal
refused refusal = Err refusal

same_refusal : (one other : Refusal) → refused one ≡ refused other → one ≡ other
same_refusal one other e = cc

take_refusal : (one other : Refusal) → (let result : Result ℕ Refusal = Err one in result) ≡ Err other → one ≡ other
take_refusal one other e = cc

is_fault : (taken : ℕ) (after : Recv) (fed : Result FeedReport RecvFault) → fed_reply taken after fed ≡ Err refusals.DiskFault → fed ≡ Err (faults.Pool pools.DiskFault)
is_fault taken after (Ok report) e = absurd cc
is_fault taken after (Err (faults.Pool (pools.Plan (plans.Limit which number)))) e = absurd cc
is_fault taken after (Err (faults.Pool (pools.Plan fault))) e = absurd cc
is_fault taken after (Err (faults.Pool (pools.CannotApply fault))) e = absurd cc
is_fault taken after (Err (faults.Pool (pools.Redacted object block))) e = absurd cc
is_fault taken after (Err (faults.Pool (pools.Full need largest))) e = absurd cc
is_fault taken after (Err (faults.Pool (pools.Damaged sector stated found))) e = absurd cc
is_fault taken after (Err (faults.Pool pools.DiskFault)) e = refl
is_fault taken after (Err (faults.Pool pools.Failed)) e = absurd cc
is_fault taken after (Err (faults.Pool pools.OutOfMemory)) e = absurd cc
is_fault taken after (Err (faults.Stream fault)) e = absurd cc
is_fault taken after (Err (faults.CannotApply index fault)) e = absurd cc

is_failed : (taken : ℕ) (after : Recv) (fed : Result FeedReport RecvFault) → fed_reply taken after fed ≡ Err refusals.Failed → fed ≡ Err (faults.Pool pools.Failed)
is_failed taken after (Ok report) e = absurd cc
is_failed taken after (Err (faults.Pool (pools.Plan (plans.Limit which number)))) e = absurd cc
is_failed taken after (Err (faults.Pool (pools.Plan fault))) e = absurd cc
is_failed taken after (Err (faults.Pool (pools.CannotApply fault))) e = absurd cc
is_failed taken after (Err (faults.Pool (pools.Redacted object block))) e = absurd cc
is_failed taken after (Err (faults.Pool (pools.Full need largest))) e = absurd cc
is_failed taken after (Err (faults.Pool (pools.Damaged sector stated found))) e = absurd cc
is_failed taken after (Err (faults.Pool pools.DiskFault)) e = absurd cc
is_failed taken after (Err (faults.Pool pools.Failed)) e = refl
is_failed taken after (Err (faults.Pool pools.OutOfMemory)) e = absurd cc
is_failed taken after (Err (faults.Stream fault)) e = absurd cc
is_failed taken after (Err (faults.CannotApply index fault)) e = absurd cc

-- and one that found no room
is_full : (taken : ℕ) (after : Recv) (fed : Result FeedReport RecvFault) (need largest : ℕ) → fed_reply taken after fed ≡ Err (refusals.Full need largest) → fed ≡ Err (faults.Pool (pools.Full need largest))
is_full taken after (Ok report) need largest e = absurd cc
is_full taken after (Err fault) need largest e = let same : recv_refusal fault ≡ refusals.Full need largest = cc in ap err (recv_full fault need largest same)
  where
    err : RecvFault → Result FeedReport RecvFault
    err f = Err f

-- a feed in which the disk failed answers so
fell_so : (taken : ℕ) (after : Recv) (fed : Result FeedReport RecvFault) → fails (stop_of fed) ≡ true → fed_reply taken after fed ≡ Err refusals.DiskFault
fell_so taken after (Ok report) e = absurd cc
fell_so taken after (Err (faults.Pool (pools.Plan fault))) e = absurd cc
fell_so taken after (Err (faults.Pool (pools.CannotApply fault))) e = absurd cc
fell_so taken after (Err (faults.Pool (pools.Redacted object block))) e = absurd cc
fell_so taken after (Err (faults.Pool (pools.Full need largest))) e = absurd cc
fell_so taken after (Err (faults.Pool (pools.Damaged sector stated found))) e = absurd cc
fell_so taken after (Err (faults.Pool pools.DiskFault)) e = refl
fell_so taken after (Err (faults.Pool pools.Failed)) e = absurd cc
fell_so taken after (Err (faults.Pool pools.OutOfMemory)) e = absurd cc
fell_so taken after (Err (faults.Stream fault)) e = absurd cc
fell_so taken after (Err (faults.CannotApply index fault)) e = absurd cc

-- ---- pools

module _ {D : Type 0} {g : Ghosts D} where
  pub later_then : (old mid new : Pool D g) → IsLaterPool old mid → IsLaterPool mid new → IsLaterPool old new
  later_then old mid new first second = record {
    faults = omega (arith, first.faults, second.faults);
    honest = λ is. first.honest (second.honest is);
    same = second.same ∙ first.same;
  }

module _ {D E : Type 0} {g : Ghosts D} {h : Ghosts E} where
  -- an event, but for a check, that the definition refuses, and that does nothing
  refuses_so : (event : Event) (engine : Engine D E g h) (refusal : Refusal) → IsOther event → EngineFits engine → ((world : World) → StandsFor engine world → moved engine.now event world ≡ refuses refusal world)
      → ¬ (refused refusal ≡ Err refusals.DiskFault) → (engine.here.io.failed ≡ false → engine.there.io.failed ≡ false → ¬ (refused refusal ≡ Err refusals.Failed))
      → ((need largest : ℕ) → ¬ (refused refusal ≡ Err (refusals.Full need largest))) → StepsEngine event engine engine (Err refusal)
  refuses_so event engine refusal other fits is no_fault open_still never_full =
      nothing_done event engine (Err refusal) other fits
      (λ world stands. let done = is world stands in record { answer = sym (ap (λ (m : Moved). m.answer) done); stays = sym (ap (λ (m : Moved). m.world) done) }) no_fault open_still never_full

  module _ (old : Engine D E g h) (sends receives count : ℕ) (fits : EngineFits old) where
    -- a send that stands for one with this id, and a receive
    abbrev IsSend : World → kept_sends.OpenSend → OpenSend → Type 0
    IsSend world one send = SendStandsOn (kept_at send.side (kept_pool old.here) (kept_pool old.there)) one send

    abbrev IsReceive : World → kept_receives.OpenReceive → OpenReceive → Type 0
    IsReceive world one receive = ReceiveStandsOn true (kept_at receive.side (kept_pool old.here) (kept_pool old.there)) (at_side receive.side world).pool one receive

    send_at : (world : World) → StandsFor old world → (place : ℕ) (one : kept_sends.OpenSend) → position (λ s. s.id == sends) old.sends.items ≡ Some place
        → (send : OpenSend) × (send_with sends world ≡ Some send) × IsSend world (get_or old.sends.items place one) send
    send_at world stands place one at =
        found_at (IsSend world) (λ s. s.id == sends) (λ s. s.id == sends) (λ x y is. ap (λ (n : ℕ). n == sends) is.id) old.sends.items world.sends stands.send_stands place one at

    receive_at : (world : World) → StandsFor old world → (place : ℕ) (one : kept_receives.OpenReceive) → position (λ r. r.id == receives) old.receives.items ≡ Some place
        → (receive : OpenReceive) × (receive_with receives world ≡ Some receive) × IsReceive world (get_or old.receives.items place one) receive
    receive_at world stands place one at =
        found_at (IsReceive world) (λ r. r.id == receives) (λ r. r.id == receives) (λ x y is. ap (λ (n : ℕ). n == receives) is.id) old.receives.items world.receives stands.receive_stands place one at

    -- no send has the id
    pub pumps_no_send : position (λ s. s.id == sends) old.sends.items ≡ None → StepsEngine (events.Pump sends receives count) old old (Err (no_session sends))
    pumps_no_send none =
        refuses_so (events.Pump sends receives count) old (no_session sends) (λ of e. cc e) fits
        (λ world stands. no_send old.now world sends receives count
        (none_matched (IsSend world) (λ s. s.id) (λ s. s.id) (λ x y is. is.id) sends old.sends.items world.sends stands.send_stands none))
        (λ e. absurd (cc e)) (λ a b e. absurd (cc e)) (λ need largest e. absurd (cc e))

    a_send : (world : World) → StandsFor old world → (place : ℕ) → position (λ s. s.id == sends) old.sends.items ≡ Some place → (send : OpenSend) × (send_with sends world ≡ Some send)
    a_send world stands place at =
        some_found (IsSend world) (λ s. s.id == sends) (λ s. s.id == sends) (λ x y is. ap (λ (n : ℕ). n == sends) is.id) old.sends.items world.sends stands.send_stands place at

    a_receive : (world : World) → StandsFor old world → (place : ℕ) → position (λ r. r.id == receives) old.receives.items ≡ Some place → (receive : OpenReceive) × (receive_with receives world ≡ Some receive)
    a_receive world stands place at =
        some_found (IsReceive world) (λ r. r.id == receives) (λ r. r.id == receives) (λ x y is. ap (λ (n : ℕ). n == receives) is.id) old.receives.items world.receives stands.receive_stands place at

    -- no receive has the id
    pub pumps_no_receive : (place : ℕ) → position (λ s. s.id == sends) old.sends.items ≡ Some place → position (λ r. r.id == receives) old.receives.items ≡ None
        → StepsEngine (events.Pump sends receives count) old old (Err (no_session receives))
    pumps_no_receive place at none =
        refuses_so (events.Pump sends receives count) old (no_session receives) (λ of e. cc e) fits
        (λ world stands. let found = a_send world stands place at in no_receive old.now world sends receives count found.0 found.1
        (none_matched (IsReceive world) (λ r. r.id) (λ r. r.id) (λ x y is. is.id) receives old.receives.items world.receives stands.receive_stands none))
        (λ e. absurd (cc e)) (λ a b e. absurd (cc e)) (λ need largest e. absurd (cc e))

    -- the mark of a side
    mark_at : (world : World) → StandsFor old world → (side : Side) → (kept_at side (kept_pool old.here) (kept_pool old.there)).failed ≡ (at_side side world).failed
    mark_at world stands Here = stands.here_stands.mark
    mark_at world stands There = stands.there_stands.mark

    none_failed : old.here.io.failed ≡ false → old.there.io.failed ≡ false → (side : Side) → (kept_at side (kept_pool old.here) (kept_pool old.there)).failed ≡ false
    none_failed here there Here = here
    none_failed here there There = there

    -- ---- a pool had failed

    had_failed : ((world : World) → StandsFor old world → (send : OpenSend) (receive : OpenReceive) → send_with sends world ≡ Some send → receive_with receives world ≡ Some receive
        → ((at_side send.side world).failed || (at_side receive.side world).failed) ≡ true)
        → (from into : ℕ) → position (λ s. s.id == sends) old.sends.items ≡ Some from → position (λ r. r.id == receives) old.receives.items ≡ Some into
        → (side : Side) → (kept_at side (kept_pool old.here) (kept_pool old.there)).failed ≡ true → StepsEngine (events.Pump sends receives count) old old (Err refusals.Failed)
    had_failed lost from into at to side had =
        refuses_so (events.Pump sends receives count) old refusals.Failed (λ of e. cc e) fits
        (λ world stands.
        let found = a_send world stands from at in
        let also = a_receive world stands into to in
        one_failed old.now world sends receives count found.0 also.0 found.1 also.1 (lost world stands found.0 also.0 found.1 also.1))
        (λ e. absurd (cc e)) (λ here there e. absurd (let both : true ≡ false = sym had ∙ none_failed here there side in cc both)) (λ need largest e. absurd (cc e))

    either : (a b : Bool) → b ≡ true → (a || b) ≡ true
    either true b e = refl
    either false b e = e

    -- that of the send
    pub pumps_failed_send : (from into : ℕ) (one : kept_sends.OpenSend) → position (λ s. s.id == sends) old.sends.items ≡ Some from → position (λ r. r.id == receives) old.receives.items ≡ Some into
        → get_or old.sends.items from one ≡ one → (kept_at one.side (kept_pool old.here) (kept_pool old.there)).failed ≡ true → StepsEngine (events.Pump sends receives count) old old (Err refusals.Failed)
    pumps_failed_send from into one at to one_is had =
        had_failed (λ world stands send receive found also.
        let is = send_at world stands from one at in
        let same : send ≡ is.0 = cc (found, is.1) in
        let side : one.side ≡ send.side = sym (ap (λ (s : kept_sends.OpenSend). s.side) one_is) ∙ is.2.side ∙ ap (λ (s : OpenSend). s.side) (sym same) in
        let lost : (at_side send.side world).failed ≡ true = ap (λ (s : Side). (at_side s world).failed) (sym side) ∙ sym (mark_at world stands one.side) ∙ had in
        ap (λ (b : Bool). b || (at_side receive.side world).failed) lost) from into at to one.side had

    -- and that of the receive
    pub pumps_failed_receive : (from into : ℕ) (other : kept_receives.OpenReceive) → position (λ s. s.id == sends) old.sends.items ≡ Some from → position (λ r. r.id == receives) old.receives.items ≡ Some into
        → get_or old.receives.items into other ≡ other → (kept_at other.side (kept_pool old.here) (kept_pool old.there)).failed ≡ true → StepsEngine (events.Pump sends receives count) old old (Err refusals.Failed)
    pumps_failed_receive from into other at to other_is had =
        had_failed (λ world stands send receive found also.
        let is = receive_at world stands into other to in
        let same : receive ≡ is.0 = cc (also, is.1) in
        let side : other.side ≡ receive.side = sym (ap (λ (r : kept_receives.OpenReceive). r.side) other_is) ∙ is.2.side ∙ ap (λ (r : OpenReceive). r.side) (sym same) in
        let lost : (at_side receive.side world).failed ≡ true = ap (λ (s : Side). (at_side s world).failed) (sym side) ∙ sym (mark_at world stands other.side) ∙ had in
        either (at_side send.side world).failed (at_side receive.side world).failed lost) from into at to other.side had

    module _ (from into : ℕ) (one : kept_sends.OpenSend) (other : kept_receives.OpenReceive) (at : position (λ s. s.id == sends) old.sends.items ≡ Some from) (to : position (λ r. r.id == receives) old.receives.items ≡ Some into)
        (one_is : get_or old.sends.items from one ≡ one) (other_is : get_or old.receives.items into other ≡ other) where
      -- ---- the take doesn't give

      module _ (works : (kept_at one.side (kept_pool old.here) (kept_pool old.there)).failed ≡ false) (mid : Engine D E g h) where
        works_at : (world : World) → StandsFor old world → (send : OpenSend) → send_with sends world ≡ Some send → (at_side send.side world).failed ≡ false
        works_at world stands send is =
            let found = send_at world stands from one at in
            let same : send ≡ found.0 = cc in
            let its : one.side ≡ send.side = sym (ap (λ (s : kept_sends.OpenSend). s.side) one_is) ∙ found.2.side ∙ ap (λ (s : OpenSend). s.side) (sym same) in
            ap (λ (s : Side). (at_side s world).failed) (sym its) ∙ sym (mark_at world stands one.side) ∙ works

        pub pumps_no_piece : (refusal : Refusal) → TakesAt from count old mid (Err refusal) → StepsEngine (events.Pump sends receives count) old mid (Err refusal)
        pumps_no_piece refusal had = record {
          steps = λ world honest also tells told stands. lost world stands (had.takes sends at world honest also tells told stands);
          fits = had.fits;
          later = had.later;
          cause = λ e. had.cause (ap (λ (r : Refusal). Err r) (same_refusal refusal refusals.DiskFault e));
          open_still = λ here there e. had.open_still here there (ap (λ (r : Refusal). Err r) (same_refusal refusal refusals.Failed e));
          checks = λ of running is honest. absurd (cc is);
          works = λ alive. had.works (λ e. alive (ap (λ (r : Refusal). Err r) (take_refusal refusal refusals.DiskFault e)));
          here_spares = λ no_reclaim. read_spares (kept_pool old.here) (kept_pool mid.here) had.here_read;
          there_spares = λ no_reclaim. read_spares (kept_pool old.there) (kept_pool mid.there) had.there_read;
          full = λ need largest e. absurd (had.never_full need largest (ap (λ (r : Refusal). Err r) (same_refusal refusal (refusals.Full need largest) e)));
        }
          where
            lost : (world : World) → StandsFor old world → Takes sends count world (kept_pool old.here) (kept_pool old.there) (kept_pool mid.here) (kept_pool mid.there) mid.sends.items mid.receives.items mid.room.items (Err refusal)
                → Steps true old.now world (events.Pump sends receives count) (kept_pool old.here) (kept_pool old.there) (kept_pool mid.here) (kept_pool mid.there) mid.sends.items mid.receives.items (Err refusal)
            lost world stands takes = by_end takes.ends
              where
                by_end : TakeEnds count takes.send world mid.room.items (Err refusal) takes.next
                    → Steps true old.now world (events.Pump sends receives count) (kept_pool old.here) (kept_pool old.there) (kept_pool mid.here) (kept_pool mid.there) mid.sends.items mid.receives.items (Err refusal)
                by_end (Gives taken is alive long gave left) = absurd (cc is)
                by_end (Loses is alive fails) = record {
                  next = takes.next;
                  moves = LosesDisk (ap (λ (r : Refusal). Err r) (cc is)) (inl (takes.send, takes.found, fails));
                  stands = takes.stands;
                  here_moments = Leaves-weaker (disk_of old.here.io) (disk_of mid.here.io) (Reads true (image_of Here world)) (BeforeOrAfter true Here world (moved old.now (events.Pump sends receives count) world).world) takes.here_moments (λ c reads. inl reads);
                  there_moments = Leaves-weaker (disk_of old.there.io) (disk_of mid.there.io) (Reads true (image_of There world)) (BeforeOrAfter true There world (moved old.now (events.Pump sends receives count) world).world) takes.there_moments (λ c reads. inl reads);
                }
                by_end (Starves is alive left) = record {
                  next = takes.next;
                  moves = TakesNoPiece sends receives count refl (ap (λ (r : Refusal). Err r) (cc is)) left;
                  stands = takes.stands;
                  here_moments = Leaves-weaker (disk_of old.here.io) (disk_of mid.here.io) (Reads true (image_of Here world)) (BeforeOrAfter true Here world (moved old.now (events.Pump sends receives count) world).world) takes.here_moments (λ c reads. inl reads);
                  there_moments = Leaves-weaker (disk_of old.there.io) (disk_of mid.there.io) (Reads true (image_of There world)) (BeforeOrAfter true There world (moved old.now (events.Pump sends receives count) world).world) takes.there_moments (λ c reads. inl reads);
                }
                by_end (HadFailed is had left) = absurd (let both : true ≡ false = sym had ∙ works_at world stands takes.send takes.found in cc both)

        -- ---- the piece is fed

        module _ (sends_go : SendsGoOn) (go_on : ReceivesGoOn) (fitting : FittingReceive) (keep : MovesKeepWorlds) (rise : NumbersRise) (stays : (target : List ℕ) (running : Plain) → kept_of (without_unkept target running) ≡ kept_of running)
            (alive : (kept_at other.side (kept_pool old.here) (kept_pool old.there)).failed ≡ false) (new : Engine D E g h) (taken : ℕ) (result : Result EventReply Refusal)
            (gave : TakesAt from count old mid (Ok taken)) (settles : SettlesFeed into taken mid new result) where
          abbrev its : kept_receives.OpenReceive
          its = settles.one

          -- what is kept of both pools
          abbrev mid_at : Side → Kept
          mid_at side = kept_at side (kept_pool mid.here) (kept_pool mid.there)

          abbrev new_at : Side → Kept
          new_at side = kept_at side (kept_pool new.here) (kept_pool new.there)

          -- what a feed made of the pool of a side
          abbrev FedSide : Side → Type 0
          FedSide side = FeedsSide side mid new its.recv settles.after (take taken mid.room.items) settles.fed

          feeds_kept : (side : Side) → FedSide side → FeedsKept (mid_at side) (new_at side) its.recv settles.after (take taken mid.room.items) settles.fed
          feeds_kept Here is = is.0
          feeds_kept There is = is.0

          -- and what it read and cost
          feeds_read : (side : Side) → FedSide side → FeedReads its.recv settles.after (take taken mid.room.items) (mid_at side).state (new_at side).state (left_on side new) settles.fed
          feeds_read Here is = is.3
          feeds_read There is = is.3

          -- and the other is as it was
          both_kept : (P : Kept → Kept → Type 0) (side : Side) → FedSide side → P (here_with side (new_at side) (kept_pool mid.here)) (there_with side (new_at side) (kept_pool mid.there)) → P (kept_pool new.here) (kept_pool new.there)
          both_kept P Here is holds = subst (λ (p : Pool E h). P (kept_pool new.here) (kept_pool p)) (sym is.2) holds
          both_kept P There is holds = subst (λ (p : Pool D g). P (kept_pool p) (kept_pool new.there)) (sym is.2) holds

          here_later : (side : Side) → FedSide side → IsLaterPool mid.here new.here
          here_later Here is = is.1
          here_later There is = subst (IsLaterPool mid.here) (sym is.2) (stays_later mid.here)

          there_later : (side : Side) → FedSide side → IsLaterPool mid.there new.there
          there_later Here is = subst (IsLaterPool mid.there) (sym is.2) (stays_later mid.there)
          there_later There is = is.1

          here_moments : (side : Side) → FedSide side → (B : Side → List ℕ → Type 0) → Leaves (mid_at side).disk (new_at side).disk (B side) → Leaves (disk_of mid.here.io) (disk_of new.here.io) (B Here)
          here_moments Here is B leaves = leaves
          here_moments There is B leaves = subst (λ (p : Pool D g). Leaves (disk_of mid.here.io) (disk_of p.io) (B Here)) (sym is.2) (Leaves-none (disk_of mid.here.io) (B Here))

          there_moments : (side : Side) → FedSide side → (B : Side → List ℕ → Type 0) → Leaves (mid_at side).disk (new_at side).disk (B side) → Leaves (disk_of mid.there.io) (disk_of new.there.io) (B There)
          there_moments Here is B leaves = subst (λ (p : Pool E h). Leaves (disk_of mid.there.io) (disk_of p.io) (B There)) (sym is.2) (Leaves-none (disk_of mid.there.io) (B There))
          there_moments There is B leaves = leaves

          both_honest : (side : Side) → (disk_of new.here.io).honest → (disk_of new.there.io).honest → (new_at side).disk.honest
          both_honest Here one two = one
          both_honest There one two = two

          both_tell : (side : Side) → IsTrue g.tells_images → IsTrue h.tells_images → IsTrue (new_at side).tells
          both_tell Here one two = one
          both_tell There one two = two

          -- which side that is
          fed_side : FedSide its.side
          fed_side = settles.feeds.feeds

          from_mid : get_or mid.receives.items into its ≡ its
          from_mid = settles.feeds.is_there

          to_mid : position (λ r. r.id == receives) mid.receives.items ≡ Some into
          to_mid = ap (λ v. position (λ r. r.id == receives) v.items) gave.receives ∙ to

          same_sends : new.sends.items ≡ mid.sends.items
          same_sends = ap (λ v. v.items) settles.feeds.sends

          below : into < length mid.receives.items
          below = (position-Some (λ r. r.id == receives) mid.receives.items into its to_mid).0

          -- ---- a world

          module _ (world : World) (honest : (disk_of new.here.io).honest) (also : (disk_of new.there.io).honest) (tells : IsTrue g.tells_images) (told : IsTrue h.tells_images) (stands : StandsFor old world) where
            abbrev Done : Type 0
            Done = Steps true old.now world (events.Pump sends receives count) (kept_pool old.here) (kept_pool old.there) (kept_pool new.here) (kept_pool new.there) new.sends.items new.receives.items (answer_of result)

            -- the steps of the feed are those of the pump
            finish : (side : Side) → FedSide side
                → FeedSteps old.now world (events.Pump sends receives count) side (kept_pool mid.here) (kept_pool mid.there) (new_at side) mid.sends.items (settled (goes_on settles.fed) into (record its { recv = settles.after }) mid.receives.items)
                (answer_of (fed_reply taken settles.after settles.fed))
                → Leaves (disk_of old.here.io) (disk_of mid.here.io) (Reads true (image_of Here world)) → Leaves (disk_of old.there.io) (disk_of mid.there.io) (Reads true (image_of There world)) → Done
            finish side is steps here_reads there_reads =
                let left = settled (goes_on settles.fed) into (record its { recv = settles.after }) mid.receives.items in
                let around = λ (s : Side). BeforeOrAfter true s world (moved old.now (events.Pump sends receives count) world).world in
                let stood = both_kept (λ a b. Stands true a b mid.sends.items left steps.next) side is steps.stands in
                record {
                  next = steps.next;
                  moves = subst (λ (r : Result EventReply Refusal). Moves old.now world (events.Pump sends receives count) (answer_of r) steps.next) (sym settles.reply) steps.moves;
                  stands = subst (λ (rs : List kept_receives.OpenReceive). Stands true (kept_pool new.here) (kept_pool new.there) new.sends.items rs steps.next) (sym settles.receives)
                      (subst (λ (ss : List kept_sends.OpenSend). Stands true (kept_pool new.here) (kept_pool new.there) ss left steps.next) (sym same_sends) stood);
                  here_moments = Leaves-then (disk_of old.here.io) (disk_of mid.here.io) (disk_of new.here.io) (around Here) (around Here)
                      (Leaves-weaker (disk_of old.here.io) (disk_of mid.here.io) (Reads true (image_of Here world)) (around Here) here_reads (λ c reads. inl reads))
                      (here_moments side is around steps.moments) (λ c holds. holds);
                  there_moments = Leaves-then (disk_of old.there.io) (disk_of mid.there.io) (disk_of new.there.io) (around There) (around There)
                      (Leaves-weaker (disk_of old.there.io) (disk_of mid.there.io) (Reads true (image_of There world)) (around There) there_reads (λ c reads. inl reads))
                      (there_moments side is around steps.moments) (λ c holds. holds);
                }

            fed_so : (send : OpenSend) → send_with sends world ≡ Some send → (at_side send.side world).failed ≡ false → taken ≡ length (next_piece count send) → take taken mid.room.items ≡ next_piece count send
                → Stands true (kept_pool mid.here) (kept_pool mid.there) mid.sends.items mid.receives.items (put_send (gone_on count send) world)
                → Leaves (disk_of old.here.io) (disk_of mid.here.io) (Reads true (image_of Here world)) → Leaves (disk_of old.there.io) (disk_of mid.there.io) (Reads true (image_of There world)) → Done
            fed_so send found works_there long piece stands_mid here_reads there_reads =
                let given = put_send (gone_on count send) world in
                let standing = found_at (λ one receive. ReceiveStandsOn true (mid_at receive.side) (at_side receive.side given).pool one receive) (λ r. r.id == receives) (λ r. r.id == receives)
                (λ x y is. ap (λ (n : ℕ). n == receives) is.id) mid.receives.items world.receives stands_mid.receive_stands into its to_mid in
                let receive = standing.0 in
                let matches : ReceiveStandsOn true (mid_at receive.side) (at_side receive.side world).pool its receive =
                subst (λ (p : OpenPool). ReceiveStandsOn true (mid_at receive.side) p.pool its receive) (same_pools receive.side given.sends world)
                (subst (λ (x : kept_receives.OpenReceive). ReceiveStandsOn true (mid_at receive.side) (at_side receive.side given).pool x receive) from_mid standing.2) in
                let side : FedSide receive.side = subst FedSide matches.side fed_side in
                let feeds = subst (λ (text : List ℕ). FeedsKept (mid_at receive.side) (new_at receive.side) its.recv settles.after text settles.fed) piece (feeds_kept receive.side side) in
                let old_receive = receive_at world stands into other to in
                let same : receive ≡ old_receive.0 = cc (standing.1, old_receive.1) in
                let other_side : other.side ≡ receive.side =
                sym (ap (λ (r : kept_receives.OpenReceive). r.side) other_is) ∙ old_receive.2.side ∙ ap (λ (r : OpenReceive). r.side) (sym same) in
                let alive_there : (at_side receive.side world).failed ≡ false = sym (mark_at world stands receive.side) ∙ ap (λ (s : Side). (kept_at s (kept_pool old.here) (kept_pool old.there)).failed) (sym other_side) ∙ alive in
                let steps = feed_steps old.now world sends receives count send receive found standing.1 sends_go go_on fitting keep rise stays works_there alive_there stands.lawful
                (kept_pool mid.here) (kept_pool mid.there) (new_at receive.side) mid.sends.items mid.receives.items into its settles.after settles.fed taken
                stands_mid below from_mid matches feeds (both_honest receive.side honest also) (both_tell receive.side tells told) long in
                finish receive.side side steps here_reads there_reads

            by_end : (send : OpenSend) (next : World) → send_with sends world ≡ Some send → TakeEnds count send world mid.room.items (Ok taken) next → Stands true (kept_pool mid.here) (kept_pool mid.there) mid.sends.items mid.receives.items next
                → Leaves (disk_of old.here.io) (disk_of mid.here.io) (Reads true (image_of Here world)) → Leaves (disk_of old.there.io) (disk_of mid.there.io) (Reads true (image_of There world)) → Done
            by_end send next found (Gives so_many is alive_there long piece left) stands_mid here_reads there_reads =
                let same : so_many ≡ taken = cc is in
                fed_so send found alive_there (sym same ∙ long) (ap (λ (n : ℕ). take n mid.room.items) (sym same) ∙ piece)
                (subst (λ (w : World). Stands true (kept_pool mid.here) (kept_pool mid.there) mid.sends.items mid.receives.items w) left stands_mid) here_reads there_reads
            by_end send next found (Loses is alive_there fails) stands_mid here_reads there_reads = absurd (cc is)
            by_end send next found (Starves is alive_there left) stands_mid here_reads there_reads = absurd (cc is)
            by_end send next found (HadFailed is had left) stands_mid here_reads there_reads = absurd (cc is)

          pumped_world : StepsWorld (events.Pump sends receives count) old new result
          pumped_world world honest also tells told stands =
              let takes = gave.takes sends at world ((here_later its.side fed_side).honest honest) ((there_later its.side fed_side).honest also) tells told stands in
              by_end world honest also tells told stands takes.send takes.next takes.found takes.ends takes.stands takes.here_moments takes.there_moments

          -- ---- what holds whatever the images are

          -- a side that works still does behind the take
          mid_works : old.here.io.failed ≡ false → old.there.io.failed ≡ false → (side : Side) → (mid_at side).failed ≡ false
          mid_works here there Here = gave.marks.0 ∙ here
          mid_works here there There = gave.marks.1 ∙ there

          fed_sessions : SessionsFit (kept_pool new.here) (kept_pool new.there) new.sends.items new.receives.items
          fed_sessions =
              subst (λ (rs : List kept_receives.OpenReceive). SessionsFit (kept_pool new.here) (kept_pool new.there) new.sends.items rs) (sym settles.receives)
              (subst (λ (ss : List kept_sends.OpenSend). SessionsFit (kept_pool new.here) (kept_pool new.there) ss (settled (goes_on settles.fed) into (record its { recv = settles.after }) mid.receives.items)) (sym same_sends)
              (both_kept (λ a b. SessionsFit a b mid.sends.items (settled (goes_on settles.fed) into (record its { recv = settles.after }) mid.receives.items)) its.side fed_side
              (fed_fit fitting (kept_pool mid.here) (kept_pool mid.there) (new_at its.side) mid.sends.items mid.receives.items into its settles.after (take taken mid.room.items) settles.fed gave.fits.sessions below from_mid
              (feeds_kept its.side fed_side) (feeds_read its.side fed_side).fed)))

          rose : (side : Side) → FedSide side → Rose (mid_at side).disk.faults (new_at side).disk.faults → Rose (disk_of old.here.io).faults (disk_of new.here.io).faults ⊎ Rose (disk_of old.there.io).faults (disk_of new.there.io).faults
          rose Here is more = inl (Rose-earlier (disk_of old.here.io).faults (disk_of mid.here.io).faults (disk_of new.here.io).faults gave.later.here.faults more)
          rose There is more = inr (Rose-earlier (disk_of old.there.io).faults (disk_of mid.there.io).faults (disk_of new.there.io).faults gave.later.there.faults more)

          -- so it does behind the feed, unless its disk failed in that
          fed_works : (side : Side) → FedSide side → ¬ (fails (stop_of settles.fed) ≡ true) → NoneFailed old new
          fed_works Here is alive = (
            λ here. still_works mid.here.io.failed (fails (stop_of settles.fed)) new.here.io.failed is.0.failed alive (gave.marks.0 ∙ here),
            λ there. ap (λ (p : Pool E h). p.io.failed) is.2 ∙ gave.marks.1 ∙ there,
          )
          fed_works There is alive = (
            λ here. ap (λ (p : Pool D g). p.io.failed) is.2 ∙ gave.marks.0 ∙ here,
            λ there. still_works mid.there.io.failed (fails (stop_of settles.fed)) new.there.io.failed is.0.failed alive (gave.marks.1 ∙ there),
          )

          -- the blocks of both pools stand behind the take and the feed
          here_spared : (side : Side) → FedSide side → SparesBlocks (events.Pump sends receives count ≡ events.Reopen Here) (kept_pool old.here) (kept_pool new.here)
          here_spared Here is = spares (kept_pool old.here) (kept_pool new.here) (λ works ptr bytes has. is.0.keeps.blocks works ptr bytes (read_blocks (kept_pool old.here) (kept_pool mid.here) gave.here_read ptr bytes has))
              (λ works has. is.0.keeps.extents works (read_extents (kept_pool old.here) (kept_pool mid.here) gave.here_read has))
          here_spared There is =
              subst (λ (p : Pool D g). SparesBlocks (events.Pump sends receives count ≡ events.Reopen Here) (kept_pool old.here) (kept_pool p)) (sym is.2)
              (read_spares (kept_pool old.here) (kept_pool mid.here) gave.here_read)

          there_spared : (side : Side) → FedSide side → SparesBlocks (events.Pump sends receives count ≡ events.Reopen There) (kept_pool old.there) (kept_pool new.there)
          there_spared Here is =
              subst (λ (p : Pool E h). SparesBlocks (events.Pump sends receives count ≡ events.Reopen There) (kept_pool old.there) (kept_pool p)) (sym is.2)
              (read_spares (kept_pool old.there) (kept_pool mid.there) gave.there_read)
          there_spared There is = spares (kept_pool old.there) (kept_pool new.there) (λ works ptr bytes has. is.0.keeps.blocks works ptr bytes (read_blocks (kept_pool old.there) (kept_pool mid.there) gave.there_read ptr bytes has))
              (λ works has. is.0.keeps.extents works (read_extents (kept_pool old.there) (kept_pool mid.there) gave.there_read has))

          -- what is kept of the pool of a side behind the take
          mid_state : (side : Side) → (mid_at side).state ≡ (kept_at side (kept_pool old.here) (kept_pool old.there)).state
          mid_state Here = gave.here_read.state
          mid_state There = gave.there_read.state

          from_old : get_or old.receives.items into its ≡ its
          from_old = sym (ap (λ v. get_or v.items into its) gave.receives) ∙ from_mid

          -- the receive was open as the event began, and was fed some text
          was_open : find (λ r. r.id == receives) old.receives.items ≡ Some its
          was_open = found_there (λ r. r.id == receives) old.receives.items into its to from_old

          was_fed : (text : List ℕ) × WasFed its.recv text
          was_fed =
              let below_old = (position-Some (λ r. r.id == receives) old.receives.items into its to).0 in
              subst (λ (r : kept_receives.OpenReceive). (text : List ℕ) × WasFed r.recv text) from_old (fits.sessions.receives_fit into its below_old).fed

          -- and where it found no room the piece was short
          fed_full : (need largest : ℕ) → result ≡ Err (refusals.Full need largest) → PumpIsShort receives count old new need largest
          fed_full need largest e =
              let fell = is_full taken settles.after settles.fed need largest (sym settles.reply ∙ e) in
              record {
                one = its;
                is_open = was_open;
                taken = taken;
                within = gave.within;
                fed = was_fed;
                short = λ text has.
                    let short = ((feeds_read its.side fed_side).costs text has).short need largest fell in
                    subst (λ (piece : List ℕ). PieceIsShort (new_records text (take taken piece)) (kept_at its.side (kept_pool old.here) (kept_pool old.there)).state (left_on its.side new) need largest) (sym (ap (λ v. v.items) settles.feeds.room))
                    (subst (λ (state : PoolState). PieceIsShort (new_records text (take taken mid.room.items)) state (left_on its.side new) need largest) (mid_state its.side) short);
              }

          pub pumps_fed : StepsEngine (events.Pump sends receives count) old new result
          pumps_fed =
              let feeds = feeds_kept its.side fed_side in
              record {
                steps = pumped_world;
                fits = record { sessions = fed_sessions; room = ap (λ v. length v.items) settles.feeds.room ∙ gave.fits.room };
                later = record { here = later_then old.here mid.here new.here gave.later.here (here_later its.side fed_side); there = later_then old.there mid.there new.there gave.later.there (there_later its.side fed_side); time = settles.feeds.time ∙ gave.later.time };
                cause = λ e. rose its.side fed_side (feeds.cause.fault (ap (λ (r : Result FeedReport RecvFault). stop_of r) (is_fault taken settles.after settles.fed (sym settles.reply ∙ e))));
                open_still = λ here there e. feeds.open_still (mid_works here there its.side) (is_failed taken settles.after settles.fed (sym settles.reply ∙ e));
                checks = λ of running is honest. absurd (cc is);
                works = λ alive. fed_works its.side fed_side (λ fell. alive (settles.reply ∙ fell_so taken settles.after settles.fed fell));
                here_spares = λ no_reclaim. here_spared its.side fed_side;
                there_spares = λ no_reclaim. there_spared its.side fed_side;
                full = fed_full;
              }
