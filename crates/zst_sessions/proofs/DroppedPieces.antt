-- An event that takes bytes of a send and feeds nobody.
use Rattle.std.proofs.Common.{◌≡◌, ◌==◌, ◌∷◌, [], ℕ, Bool, false, true, List, length, Option, Some, None, Ok, Err, inl, sym, ap, ◌∙◌, if◌then◌else◌}
use Rattle.std.specs.List.{position}
use Rattle.std.specs.Option.{option_map_or}
use Rattle.std.specs.Prelude.{Result}
use Rattle.zst_outside.specs.Images.{Leaves-weaker}
use Rattle.zst_outside.specs.declared.disk.Disk.{Ghosts}
use Rattle.zst_dir.specs.RowNames.{Match}
use Rattle.zst_image.specs.Reads.{Reads}
use Rattle.zst_model.specs.declared.refusals.refusal.Refusal.{Refusal}
use Rattle.zst_model.specs.declared.refusals.refusal.Refusal.TheVariants as refusals
use Rattle.zst_script.specs.declared.event.Event.TheVariants as events
use Rattle.zst_script.specs.declared.event.Side.{Side}
use Rattle.zst_script.specs.declared.event.Side.TheVariants.{Here, There}
use Rattle.zst_sessions.proofs.RemovedSessions.{none_matched}
use Rattle.zst_sessions.proofs.SparedBlocks.{read_spares}
use Rattle.zst_sessions.proofs.UnmovedEngines.{nothing_done}
use Rattle.zst_sessions.specs.EngineSteps.{EngineFits, StepsEngine, kept_pool}
use Rattle.zst_sessions.specs.Engines.{BeforeOrAfter, Kept, SendStandsOn, Steps, kept_at}
use Rattle.zst_sessions.specs.EventReplies.{answer_of}
use Rattle.zst_sessions.specs.Moves.{Moved, answers, if_works, moved, no_session, on_send, refuses, took}
use Rattle.zst_sessions.specs.Replay.{AsDefined, LosesDisk, Moves, image_of, FindsNoMemory}
use Rattle.zst_sessions.specs.Takes.{Gives, HadFailed, Loses, TakeEnds, Takes, TakesAt, Starves}
use Rattle.zst_sessions.specs.World.{OpenSend, World, at_side, gone_on, next_piece, put_send, send_with}
use Rattle.zst_sessions.specs.declared.engine.Engine.{Engine}
use Rattle.zst_sessions.specs.declared.event_reply.EventReply.{EventReply}
use Rattle.zst_sessions.specs.declared.event_reply.EventReply.TheVariants.{Dropped}
use Rattle.zst_sessions.specs.declared.open_sessions.OpenReceive as kept_receives
use Rattle.zst_sessions.specs.declared.open_sessions.OpenSend as kept_sends

-- ---- what a look-up of a send leads to

pub send_found : (id : ℕ) (world : World) (next : OpenSend → Moved) (send : OpenSend) → send_with id world ≡ Some send → on_send id world next ≡ next send
send_found id world next send found = ap (λ (o : Option OpenSend). option_map_or next o (refuses (no_session id) world)) found

pub send_missed : (id : ℕ) (world : World) (next : OpenSend → Moved) → send_with id world ≡ None → on_send id world next ≡ refuses (no_session id) world
send_missed id world next none = ap (λ (o : Option OpenSend). option_map_or next o (refuses (no_session id) world)) none

-- and the mark of its pool
pub works_on : (side : Side) (world : World) (rest : Moved) → (at_side side world).failed ≡ false → if_works side world rest ≡ rest
works_on side world rest works = ap (λ (b : Bool). if b then refuses refusals.Failed world else rest) works

pub works_not : (side : Side) (world : World) (rest : Moved) → (at_side side world).failed ≡ true → if_works side world rest ≡ refuses refusals.Failed world
works_not side world rest fell = ap (λ (b : Bool). if b then refuses refusals.Failed world else rest) fell

-- where no send that is kept has the id, none of the world has it
pub no_send : (here there : Kept) (sends : List kept_sends.OpenSend) (world : World) (id : ℕ)
    → Match (λ one send. SendStandsOn (kept_at send.side here there) one send) sends world.sends → position (λ one. one.id == id) sends ≡ None → send_with id world ≡ None
no_send here there sends world id match none =
    none_matched (λ one send. SendStandsOn (kept_at send.side here there) one send) (λ (one : kept_sends.OpenSend). one.id) (λ (send : OpenSend). send.id) (λ one send is. is.id) id sends world.sends match none

-- ---- the event

-- the event's answer
abbrev pub dropped : Result ℕ Refusal → Result EventReply Refusal
dropped (Ok taken) = Ok (Dropped taken)
dropped (Err refusal) = Err refusal

module _ (now id count : ℕ) (world : World) where
  -- what it is once the send is found
  found_drop : (send : OpenSend) → send_with id world ≡ Some send
      → moved now (events.Drop id count) world ≡ if_works send.side world (answers (took (length (next_piece count send))) (put_send (gone_on count send) world))
  unfolding moved
  found_drop send found = send_found id world (λ send. if_works send.side world (answers (took (length (next_piece count send))) (put_send (gone_on count send) world))) send found

  -- and where it isn't
  pub missed_drop : send_with id world ≡ None → moved now (events.Drop id count) world ≡ refuses (no_session id) world
  unfolding moved
  missed_drop none = send_missed id world (λ send. if_works send.side world (answers (took (length (next_piece count send))) (put_send (gone_on count send) world))) none

  -- a take moves as the event does
  drop_moves : (send : OpenSend) (room : List ℕ) (result : Result ℕ Refusal) (next : World) → send_with id world ≡ Some send → TakeEnds count send world room result next
      → Moves now world (events.Drop id count) (answer_of (dropped result)) next
  drop_moves send room result next found (Gives taken is works count_is piece next_is) =
      let way = found_drop send found ∙ works_on send.side world (answers (took (length (next_piece count send))) (put_send (gone_on count send) world)) works in
      AsDefined
      (ap (λ (r : Result ℕ Refusal). answer_of (dropped r)) is ∙ ap (λ (n : ℕ). Ok (took n ∷ [])) count_is ∙ sym (ap (λ (m : Moved). m.answer) way))
      (next_is ∙ sym (ap (λ (m : Moved). m.world) way))
  drop_moves send room result next found (Loses is works fails) = LosesDisk (ap (λ (r : Result ℕ Refusal). answer_of (dropped r)) is) (send, found, fails)
  drop_moves send room result next found (Starves is works next_is) = FindsNoMemory (ap (λ (r : Result ℕ Refusal). answer_of (dropped r)) is) next_is
  drop_moves send room result next found (HadFailed is fell next_is) =
      let way = found_drop send found ∙ works_not send.side world (answers (took (length (next_piece count send))) (put_send (gone_on count send) world)) fell in
      AsDefined (ap (λ (r : Result ℕ Refusal). answer_of (dropped r)) is ∙ sym (ap (λ (m : Moved). m.answer) way)) (next_is ∙ sym (ap (λ (m : Moved). m.world) way))

  -- so a take is a step of the world
  pub drop_steps : (here there here' there' : Kept) (sends : List kept_sends.OpenSend) (receives : List kept_receives.OpenReceive) (room : List ℕ) (result : Result ℕ Refusal)
      → Takes id count world here there here' there' sends receives room result → Steps true now world (events.Drop id count) here there here' there' sends receives (answer_of (dropped result))
  drop_steps here there here' there' sends receives room result takes = record {
    next = takes.next;
    moves = drop_moves takes.send room result takes.next takes.found takes.ends;
    stands = takes.stands;
    here_moments = Leaves-weaker here.disk here'.disk (Reads true (image_of Here world)) (BeforeOrAfter true Here world (moved now (events.Drop id count) world).world) takes.here_moments (λ c reads. inl reads);
    there_moments = Leaves-weaker there.disk there'.disk (Reads true (image_of There world)) (BeforeOrAfter true There world (moved now (events.Drop id count) world).world) takes.there_moments (λ c reads. inl reads);
  }

-- a refusal is that of the take
dropped_err : (result : Result ℕ Refusal) (refusal : Refusal) → dropped result ≡ Err refusal → result ≡ Err refusal
dropped_err (Ok taken) refusal is = absurd (cc)
dropped_err (Err other) refusal is = let same : other ≡ refusal = cc in ap err same
  where
    err : Refusal → Result ℕ Refusal
    err r = Err r

-- ---- of the engine

module _ {D E : Type 0} {g : Ghosts D} {h : Ghosts E} (old : Engine D E g h) (id count : ℕ) where
  -- bytes of the send at a place were taken
  pub drop_taken : (new : Engine D E g h) (place : ℕ) (result : Result ℕ Refusal) → position (λ one. one.id == id) old.sends.items ≡ Some place → TakesAt place count old new result
      → StepsEngine (events.Drop id count) old new (dropped result)
  drop_taken new place result at takes = record {
    steps = λ world honest also tells told stands.
        drop_steps old.now id count world (kept_pool old.here) (kept_pool old.there) (kept_pool new.here) (kept_pool new.there) new.sends.items new.receives.items new.room.items result
        (takes.takes id at world honest also tells told stands);
    fits = takes.fits;
    later = takes.later;
    cause = λ is. takes.cause (dropped_err result refusals.DiskFault is);
    open_still = λ works also is. takes.open_still works also (dropped_err result refusals.Failed is);
    checks = λ of running is honest. absurd (cc is);
    works = λ alive. takes.works (λ is. alive (ap dropped is));
    here_spares = λ no_reclaim. read_spares (kept_pool old.here) (kept_pool new.here) takes.here_read;
    there_spares = λ no_reclaim. read_spares (kept_pool old.there) (kept_pool new.there) takes.there_read;
    full = λ need largest is. takes.never_full need largest (dropped_err result (refusals.Full need largest) is);
  }

  -- no send has the id
  pub drop_missed : EngineFits old → position (λ one. one.id == id) old.sends.items ≡ None → StepsEngine (events.Drop id count) old old (Err (no_session id))
  drop_missed fits none =
      nothing_done (events.Drop id count) old (Err (no_session id)) (λ of is. cc is) fits
      (λ world stands.
      let way = missed_drop old.now id count world (no_send (kept_pool old.here) (kept_pool old.there) old.sends.items world id stands.send_stands none) in
      record { answer = sym (ap (λ (m : Moved). m.answer) way); stays = sym (ap (λ (m : Moved). m.world) way) })
      (λ is. absurd (cc)) (λ works also is. absurd (cc)) (λ need largest is. absurd (cc))
