-- An event that ends all sessions of a pool, and opens it again.
use Rattle.std.proofs.Common.{◌≡◌, ◌⊎◌, inl, inr, ◌∷◌, [], ℕ, Bool, true, false, not, List, filter, length, Ok, Err, refl, sym, ap, ◌∙◌, subst}
use Rattle.std.specs.Prelude.{IsTrue, Result}
use Rattle.zst_outside.specs.Causes.{Rose}
use Rattle.zst_outside.specs.Images.{Leaves, Leaves-none, Leaves-weaker}
use Rattle.zst_outside.specs.declared.disk.Disk.{Ghosts}
use Rattle.zst_block.specs.IoStates.{disk_of}
use Rattle.zst_image.specs.Reads.{Reads}
use Rattle.zst_model.specs.declared.refusals.refusal.Refusal.{Refusal}
use Rattle.zst_model.specs.declared.refusals.refusal.Refusal.TheVariants as refusals
use Rattle.zst_model.specs.pools.AnswerLines.{ok_line}
use Rattle.zst_model.specs.pools.KeptPool.{kept_of}
use Rattle.zst_model.specs.pools.Pool.{Pool}
use Rattle.zst_pool.proofs.PoolsAtRest.{kept_again}
use Rattle.zst_pool.specs.Calls.{IsAtRest}
use Rattle.zst_pool.specs.declared.pool.Pool as pools
use Rattle.zst_script.specs.declared.event.Event.TheVariants as events
use Rattle.zst_script.specs.declared.event.Side.{Side}
use Rattle.zst_script.specs.declared.event.Side.TheVariants.{Here, There}
use Rattle.zst_sessions.proofs.ChangedSides.{side_stands}
use Rattle.zst_sessions.proofs.EndedSessions.{ended_pool, fits_left, is_ended, is_lost, is_reopened, left_at, reads_as_kept, stands_left}
use Rattle.zst_sessions.proofs.SparedBlocks.{none_spares, opens_spares}
use Rattle.zst_sessions.proofs.UnmovedEngines.{stays_later}
use Rattle.zst_sessions.specs.Endings.{FindsNoMemory, IsOpened, LosesDisk, OpeningEnds, OpensAgain}
use Rattle.zst_sessions.specs.EngineSteps.{EngineFits, IsLaterPool, SessionsFit, SparesBlocks, StepsEngine, here_with, kept_pool, there_with}
use Rattle.zst_sessions.specs.Engines.{BeforeOrAfter, Kept, MayLeave, PoolStands, Stands, Steps, kept_at}
use Rattle.zst_sessions.specs.EventReplies.{answer_of}
use Rattle.zst_sessions.specs.Lawfulness.{MovesKeepWorlds}
use Rattle.zst_sessions.specs.Moves.{Answer, Moved, answers, moved, number_line, reopened}
use Rattle.zst_sessions.specs.Replay as replays
use Rattle.zst_sessions.specs.Replay.{Moves, image_of}
use Rattle.zst_sessions.specs.World.{World, at_side, is_side}
use Rattle.zst_sessions.specs.declared.engine.Engine.{Engine}
use Rattle.zst_sessions.specs.declared.event_reply.EventReply.{EventReply}
use Rattle.zst_sessions.specs.declared.event_reply.EventReply.TheVariants.{Opened}
use Rattle.zst_sessions.specs.declared.open_sessions.OpenReceive as kept_receives
use Rattle.zst_sessions.specs.declared.open_sessions.OpenSend as kept_sends

-- the event's answer
abbrev pub opened : Result ℕ Refusal → Result EventReply Refusal
opened (Ok number) = Ok (Opened number)
opened (Err refusal) = Err refusal

-- the pool's number is told, and what is kept of it runs without sessions
moved_so : (now : ℕ) (side : Side) (world : World) → moved now (events.Reopen side) world ≡ answers (number_line side world) (reopened side world)
unfolding moved
moved_so now side world = refl

-- ---- what a crash may leave

leaves_here : (side : Side) (here there new : Kept) (world after : World)
    → Leaves (kept_at side here there).disk new.disk (MayLeave true side (events.Reopen side) (kept_at side here there) world after)
    → Leaves here.disk (here_with side new here).disk (MayLeave true Here (events.Reopen side) here world after)
leaves_here Here here there new world after leaves = leaves
leaves_here There here there new world after leaves = Leaves-none here.disk (MayLeave true Here (events.Reopen There) here world after)

leaves_there : (side : Side) (here there new : Kept) (world after : World)
    → Leaves (kept_at side here there).disk new.disk (MayLeave true side (events.Reopen side) (kept_at side here there) world after)
    → Leaves there.disk (there_with side new there).disk (MayLeave true There (events.Reopen side) there world after)
leaves_there Here here there new world after leaves = Leaves-none there.disk (MayLeave true There (events.Reopen Here) there world after)
leaves_there There here there new world after leaves = leaves

-- ---- the event

module _ (now : ℕ) (side : Side) (here there new : Kept) (sends : List kept_sends.OpenSend) (receives : List kept_receives.OpenReceive) (world : World) (result : Result ℕ Refusal) (keep : MovesKeepWorlds)
    (stands : Stands true here there sends receives world) (opens : OpensAgain (kept_at side here there) new result) (honest : new.disk.honest) (tells : IsTrue (kept_at side here there).tells) where
  abbrev old : Kept
  old = kept_at side here there

  abbrev pool : Pool
  pool = (at_side side world).pool

  old_stands : PoolStands true old (at_side side world)
  old_stands = side_stands side here there world stands.here_stands stands.there_stands

  -- a read gives what is kept of the pool
  reads : Reads true (kept_of pool) old.disk.seen
  reads = reads_as_kept true old (at_side side world) old_stands tells

  -- each image reads so, unless the disk had failed
  moments : Leaves old.disk new.disk (MayLeave true side (events.Reopen side) old world (moved now (events.Reopen side) world).world)
  moments = Leaves-weaker old.disk new.disk old.disk.images (MayLeave true side (events.Reopen side) old world after) opens.reads.time (go old.failed refl)
    where
      after : World
      after = (moved now (events.Reopen side) world).world

      go : (failed : Bool) → old.failed ≡ failed → (c : List ℕ) → old.disk.images c → ((old.failed ≡ true) × old.disk.images c) ⊎ BeforeOrAfter true side world after c
      go true is c image = inl (is, image)
      go false is c image = let rest = old_stands.rests is in inr (inl (old.state.body, rest.rows, rest.rests.each c image))

  -- the pool with this mark, of which what its image keeps is left
  pool_stands : (failed : Bool) → new.failed ≡ failed → (new.failed ≡ false → IsAtRest true new.disk new.state (kept_of pool)) → PoolStands true new (record { pool = kept_of pool; failed = failed })
  pool_stands failed mark rests = record {
    mark = mark;
    rests = rests;
    ready = opens.ready;
    lost = λ fell told. subst (λ (p : Pool). Reads true p new.disk.seen) (sym (kept_again pool)) (subst (Reads true (kept_of pool)) (sym opens.reads.seen) reads);
  }

  abbrev StepsBy : Answer → Type 0
  StepsBy answer =
      Steps true now world (events.Reopen side) here there (here_with side new here) (there_with side new there) (filter (λ one. not (is_side one.side side)) sends)
      (filter (λ one. not (is_side one.side side)) receives) answer

  steps_to : (failed : Bool) (answer : Answer) → Moves now world (events.Reopen side) answer (left_at side failed world) → new.failed ≡ failed
      → (new.failed ≡ false → IsAtRest true new.disk new.state (kept_of pool)) → StepsBy answer
  steps_to failed answer moves mark rests =
      let after = (moved now (events.Reopen side) world).world in
      record {
        next = left_at side failed world;
        moves = moves;
        stands = stands_left side failed here there new sends receives world stands (pool_stands failed mark rests) (keep now world (left_at side failed world) (events.Reopen side) answer moves stands.lawful);
        here_moments = leaves_here side here there new world after moments;
        there_moments = leaves_there side here there new world after moments;
      }

  by_end : OpeningEnds old new (kept_of pool) result → StepsBy (answer_of (opened result))
  by_end (IsOpened is works rests) =
      subst (λ (r : Result ℕ Refusal). StepsBy (answer_of (opened r))) (sym is)
      (steps_to false (Ok (ok_line pool.number ∷ []))
      (replays.AsDefined (sym (ap (λ (m : Moved). m.answer) (moved_so now side world))) (is_reopened side world ∙ sym (ap (λ (m : Moved). m.world) (moved_so now side world)))) works (λ w. rests))
  by_end (LosesDisk is fell) =
      subst (λ (r : Result ℕ Refusal). StepsBy (answer_of (opened r))) (sym is)
      (steps_to true (Err refusals.DiskFault)
      (replays.LosesDisk refl (record { pool = kept_of pool; one_of = inl (ended_pool side world); world_is = is_lost side world })) fell
      (λ works. absurd (let both : true ≡ false = sym fell ∙ works in cc)))
  by_end (FindsNoMemory is mark rests) =
      subst (λ (r : Result ℕ Refusal). StepsBy (answer_of (opened r))) (sym is)
      (steps_to (at_side side world).failed (Err refusals.OutOfMemory) (replays.FindsNoMemory refl (is_ended side world)) (mark ∙ old_stands.mark) (λ works. rests (sym mark ∙ works)))

  pub reopen_steps : StepsBy (answer_of (opened result))
  reopen_steps = by_end (opens.ends pool honest reads old_stands.rests)

-- ---- the engine

module _ {D E : Type 0} {g : Ghosts D} {h : Ghosts E} (old new : Engine D E g h) (result : Result ℕ Refusal) (keep : MovesKeepWorlds) (fits : EngineFits old) where
  -- the sessions of a pool have ended
  abbrev pub Ends : Side → Type 0
  Ends side = (new.sends.items ≡ filter (λ one. not (is_side one.side side)) old.sends.items) × (new.receives.items ≡ filter (λ one. not (is_side one.side side)) old.receives.items)

  fault_is : opened result ≡ Err refusals.DiskFault → result ≡ Err refusals.DiskFault
  fault_is = go result
    where
      go : (r : Result ℕ Refusal) → opened r ≡ Err refusals.DiskFault → r ≡ Err refusals.DiskFault
      go (Ok number) is = absurd (cc)
      go (Err refusal) is = let same : refusal ≡ refusals.DiskFault = cc in ap (λ (f : Refusal). Err f) same

  failed_is : opened result ≡ Err refusals.Failed → result ≡ Err refusals.Failed
  failed_is = go result
    where
      go : (r : Result ℕ Refusal) → opened r ≡ Err refusals.Failed → r ≡ Err refusals.Failed
      go (Ok number) is = absurd (cc)
      go (Err refusal) is = let same : refusal ≡ refusals.Failed = cc in ap (λ (f : Refusal). Err f) same

  full_is : (need largest : ℕ) → opened result ≡ Err (refusals.Full need largest) → result ≡ Err (refusals.Full need largest)
  full_is need largest = go result
    where
      go : (r : Result ℕ Refusal) → opened r ≡ Err (refusals.Full need largest) → r ≡ Err (refusals.Full need largest)
      go (Ok number) is = absurd (cc)
      go (Err refusal) is = let same : refusal ≡ refusals.Full need largest = cc in ap (λ (f : Refusal). Err f) same

  module _ (time : new.now ≡ old.now) (room : new.room ≡ old.room) (still : ¬ (result ≡ Err refusals.Failed)) where
    pub reopens_here : Ends Here → new.there ≡ old.there → OpensAgain (kept_pool old.here) (kept_pool new.here) result → IsLaterPool old.here new.here
        → (result ≡ Err refusals.DiskFault → Rose (disk_of old.here.io).faults (disk_of new.here.io).faults) → StepsEngine (events.Reopen Here) old new (opened result)
    reopens_here ends other opens later cause = record {
      steps = λ world honest also tells told stands.
          subst (λ (p : pools.Pool E h). Steps true old.now world (events.Reopen Here) (kept_pool old.here) (kept_pool old.there) (kept_pool new.here) (kept_pool p) new.sends.items new.receives.items (answer_of (opened result))) (sym other)
          (subst (λ (sends : List kept_sends.OpenSend). Steps true old.now world (events.Reopen Here) (kept_pool old.here) (kept_pool old.there) (kept_pool new.here) (kept_pool old.there) sends new.receives.items (answer_of (opened result))) (sym ends.0)
          (subst (λ (receives : List kept_receives.OpenReceive). Steps true old.now world (events.Reopen Here) (kept_pool old.here) (kept_pool old.there) (kept_pool new.here) (kept_pool old.there) (filter (λ one. not (is_side one.side Here)) old.sends.items) receives (answer_of (opened result))) (sym ends.1)
          (reopen_steps old.now Here (kept_pool old.here) (kept_pool old.there) (kept_pool new.here) old.sends.items old.receives.items world result keep stands opens honest tells)));
      fits = record {
        sessions =
            subst (λ (p : pools.Pool E h). SessionsFit (kept_pool new.here) (kept_pool p) new.sends.items new.receives.items) (sym other)
            (subst (λ (sends : List kept_sends.OpenSend). SessionsFit (kept_pool new.here) (kept_pool old.there) sends new.receives.items) (sym ends.0)
            (subst (λ (receives : List kept_receives.OpenReceive). SessionsFit (kept_pool new.here) (kept_pool old.there) (filter (λ one. not (is_side one.side Here)) old.sends.items) receives) (sym ends.1)
            (fits_left Here (kept_pool old.here) (kept_pool old.there) (kept_pool new.here) old.sends.items old.receives.items opens.ready fits.sessions)));
        room = ap (λ (r : _). length r.items) room ∙ fits.room;
      };
      later = record { here = later; there = subst (λ (p : pools.Pool E h). IsLaterPool old.there p) (sym other) (stays_later old.there); time = time };
      cause = λ is. inl (cause (fault_is is));
      open_still = λ works also is. still (failed_is is);
      checks = λ of running is honest. absurd (cc is);
      works = λ alive. (opens.works (λ is. alive (ap opened is)), λ works. ap (λ (p : pools.Pool E h). p.io.failed) other ∙ works);
      here_spares = λ no_reclaim. opens_spares (kept_pool old.here) (kept_pool new.here) refl opens.reads opens.body;
      there_spares = λ no_reclaim. subst (λ (p : pools.Pool E h). SparesBlocks (events.Reopen Here ≡ events.Reopen There) (kept_pool old.there) (kept_pool p)) (sym other) (none_spares (kept_pool old.there));
      full = λ need largest is. opens.never_full need largest (full_is need largest is);
    }

    pub reopens_there : Ends There → new.here ≡ old.here → OpensAgain (kept_pool old.there) (kept_pool new.there) result → IsLaterPool old.there new.there
        → (result ≡ Err refusals.DiskFault → Rose (disk_of old.there.io).faults (disk_of new.there.io).faults) → StepsEngine (events.Reopen There) old new (opened result)
    reopens_there ends other opens later cause = record {
      steps = λ world also honest told tells stands.
          subst (λ (p : pools.Pool D g). Steps true old.now world (events.Reopen There) (kept_pool old.here) (kept_pool old.there) (kept_pool p) (kept_pool new.there) new.sends.items new.receives.items (answer_of (opened result))) (sym other)
          (subst (λ (sends : List kept_sends.OpenSend). Steps true old.now world (events.Reopen There) (kept_pool old.here) (kept_pool old.there) (kept_pool old.here) (kept_pool new.there) sends new.receives.items (answer_of (opened result))) (sym ends.0)
          (subst (λ (receives : List kept_receives.OpenReceive). Steps true old.now world (events.Reopen There) (kept_pool old.here) (kept_pool old.there) (kept_pool old.here) (kept_pool new.there) (filter (λ one. not (is_side one.side There)) old.sends.items) receives (answer_of (opened result))) (sym ends.1)
          (reopen_steps old.now There (kept_pool old.here) (kept_pool old.there) (kept_pool new.there) old.sends.items old.receives.items world result keep stands opens honest tells)));
      fits = record {
        sessions =
            subst (λ (p : pools.Pool D g). SessionsFit (kept_pool p) (kept_pool new.there) new.sends.items new.receives.items) (sym other)
            (subst (λ (sends : List kept_sends.OpenSend). SessionsFit (kept_pool old.here) (kept_pool new.there) sends new.receives.items) (sym ends.0)
            (subst (λ (receives : List kept_receives.OpenReceive). SessionsFit (kept_pool old.here) (kept_pool new.there) (filter (λ one. not (is_side one.side There)) old.sends.items) receives) (sym ends.1)
            (fits_left There (kept_pool old.here) (kept_pool old.there) (kept_pool new.there) old.sends.items old.receives.items opens.ready fits.sessions)));
        room = ap (λ (r : _). length r.items) room ∙ fits.room;
      };
      later = record { here = subst (λ (p : pools.Pool D g). IsLaterPool old.here p) (sym other) (stays_later old.here); there = later; time = time };
      cause = λ is. inr (cause (fault_is is));
      open_still = λ works also is. still (failed_is is);
      checks = λ of running is honest. absurd (cc is);
      works = λ alive. (λ works. ap (λ (p : pools.Pool D g). p.io.failed) other ∙ works, opens.works (λ is. alive (ap opened is)));
      here_spares = λ no_reclaim. subst (λ (p : pools.Pool D g). SparesBlocks (events.Reopen There ≡ events.Reopen Here) (kept_pool old.here) (kept_pool p)) (sym other) (none_spares (kept_pool old.here));
      there_spares = λ no_reclaim. opens_spares (kept_pool old.there) (kept_pool new.there) refl opens.reads opens.body;
      full = λ need largest is. opens.never_full need largest (full_is need largest is);
    }
