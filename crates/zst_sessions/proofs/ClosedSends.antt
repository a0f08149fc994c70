-- An event that closes a send.
use Rattle.std.proofs.Common.{◌≡◌, ◌≢◌, ◌==◌, ℕ, true, List, drop, filter, get_or, not, suc, take, Some, None, Ok, Err, refl, sym, ap, subst, eqb-true}
use Rattle.std.specs.List.{All, position, remove}
use Rattle.std.specs.Prelude.{codes}
use Rattle.std.proofs.lemmas.List.Elements.{All-append, All-drop, All-take}
use Rattle.std.proofs.lemmas.List.Kept.{AllPairs-filter}
use Rattle.std.proofs.lemmas.List.Quantifiers.{position-Some}
use Rattle.zst_outside.specs.Images.{Leaves-none}
use Rattle.zst_outside.specs.declared.disk.Disk.{Ghosts}
use Rattle.zst_block.specs.IoStates.{disk_of}
use Rattle.zst_dir.proofs.Matches.{find-Match}
use Rattle.zst_script.specs.declared.event.Event.TheVariants as events
use Rattle.zst_script.specs.declared.event.Side.{Side}
use Rattle.zst_script.specs.declared.event.Side.TheVariants.{Here, There}
use Rattle.zst_send.specs.Sends.{SendFits}
use Rattle.zst_sessions.proofs.DroppedPieces.{no_send, send_found, send_missed}
use Rattle.zst_sessions.proofs.ReadPools.{read_none, receives_read}
use Rattle.zst_sessions.proofs.RemovedSessions.{remove_match}
use Rattle.zst_sessions.proofs.SparedBlocks.{none_spares}
use Rattle.zst_sessions.proofs.UnmovedEngines.{nothing_done, stays_later}
use Rattle.zst_sessions.proofs.Worlds.{with_sends}
use Rattle.zst_sessions.specs.EngineSteps.{EngineFits, StepsEngine, kept_pool}
use Rattle.zst_sessions.specs.Engines.{BeforeOrAfter, Kept, SendStandsOn, Stands, kept_at}
use Rattle.zst_sessions.specs.Moves.{Moved, answers, moved, no_session, refuses}
use Rattle.zst_sessions.specs.Replay.{AsDefined}
use Rattle.zst_sessions.specs.World.{OpenSend, World, at_side, send_with, without_send}
use Rattle.zst_sessions.specs.declared.engine.Engine.{Engine}
use Rattle.zst_sessions.specs.declared.event_reply.EventReply.TheVariants.{Closed}
use Rattle.zst_sessions.specs.declared.open_sessions.OpenReceive as kept_receives
use Rattle.zst_sessions.specs.declared.open_sessions.OpenSend as kept_sends

module _ (now id : ℕ) (world : World) where
  -- what it is once the send is found
  found_close : (send : OpenSend) → send_with id world ≡ Some send → moved now (events.Close id) world ≡ answers (codes "ok") (without_send id world)
  unfolding moved
  found_close send found = send_found id world (λ send. answers (codes "ok") (without_send id world)) send found

  -- and where it isn't
  missed_close : send_with id world ≡ None → moved now (events.Close id) world ≡ refuses (no_session id) world
  unfolding moved
  missed_close none = send_missed id world (λ send. answers (codes "ok") (without_send id world)) none

  -- what stands without the send at a place that has this id
  stands_without : (here there : Kept) (sends : List kept_sends.OpenSend) (receives : List kept_receives.OpenReceive) (place : ℕ) (d : kept_sends.OpenSend) → Stands true here there sends receives world
      → position (λ one. one.id == id) sends ≡ Some place → Stands true here there (remove sends place) receives (without_send id world)
  stands_without here there sends receives place d stands at =
      let found = position-Some (λ one. one.id == id) sends place d at in
      record {
        here_stands = stands.here_stands;
        there_stands = stands.there_stands;
        send_stands =
            remove_match (λ one send. SendStandsOn (kept_at send.side here there) one send) (λ (one : kept_sends.OpenSend). one.id) (λ (send : OpenSend). send.id) (λ one send is. is.id) id
            sends world.sends place d stands.lawful.sends stands.send_stands found.0 (eqb-true (get_or sends place d).id id found.1);
        receive_stands = receives_read here there here there (read_none here) (read_none there) world (without_send id world) same receives world.receives stands.receive_stands;
        lawful = with_sends world stands.lawful (filter (λ send. not (send.id == id)) world.sends) (AllPairs-filter (λ a b. a.id ≢ b.id) (λ send. not (send.id == id)) world.sends stands.lawful.sends);
      }
    where
      same : (of : Side) → (at_side of world).pool ≡ (at_side of (without_send id world)).pool
      same Here = refl
      same There = refl

-- what holds of all holds of all but one
All-remove : {A : Type 0} (P : A → Type 0) (xs : List A) (i : ℕ) → All P xs → All P (remove xs i)
All-remove P xs i all = All-append P (take i xs) (drop (suc i) xs) (All-take P i xs all) (All-drop P (suc i) xs all)

-- ---- of the engine

module _ {D E : Type 0} {g : Ghosts D} {h : Ghosts E} (old : Engine D E g h) (id : ℕ) where
  -- the send at a place was closed
  pub close_found : (new : Engine D E g h) (place : ℕ) (d : kept_sends.OpenSend) → new ≡ record old { sends = new.sends } → new.sends.items ≡ remove old.sends.items place → EngineFits old
      → position (λ one. one.id == id) old.sends.items ≡ Some place → StepsEngine (events.Close id) old new (Ok Closed)
  close_found new place d is left fits at = subst (λ (e : Engine D E g h). StepsEngine (events.Close id) old e (Ok Closed)) (sym is) (record {
    steps = λ world honest also tells told stands.
        let found = find-Match (λ one send. SendStandsOn (kept_at send.side (kept_pool old.here) (kept_pool old.there)) one send) (λ one. one.id == id) (λ send. send.id == id)
        (λ one send is. ap (λ (n : ℕ). n == id) is.id) d old.sends.items world.sends stands.send_stands place at in
        let way = found_close old.now id world found.0 found.1 in
        record {
          next = without_send id world;
          moves = AsDefined (sym (ap (λ (m : Moved). m.answer) way)) (sym (ap (λ (m : Moved). m.world) way));
          stands = subst (λ (coded : List kept_sends.OpenSend). Stands true (kept_pool old.here) (kept_pool old.there) coded old.receives.items (without_send id world)) (sym left)
              (stands_without old.now id world (kept_pool old.here) (kept_pool old.there) old.sends.items old.receives.items place d stands at);
          here_moments = Leaves-none (disk_of old.here.io) (BeforeOrAfter true Here world (moved old.now (events.Close id) world).world);
          there_moments = Leaves-none (disk_of old.there.io) (BeforeOrAfter true There world (moved old.now (events.Close id) world).world);
        };
    fits = record {
      sessions = record {
        here_ready = fits.sessions.here_ready;
        there_ready = fits.sessions.there_ready;
        sends_fit = subst (All (λ (one : kept_sends.OpenSend). SendFits one.send)) (sym left) (All-remove (λ (one : kept_sends.OpenSend). SendFits one.send) old.sends.items place fits.sessions.sends_fit);
        receives_fit = fits.sessions.receives_fit;
        targets = fits.sessions.targets;
      };
      room = fits.room;
    };
    later = record { here = stays_later old.here; there = stays_later old.there; time = refl };
    cause = λ is. absurd (cc);
    open_still = λ works also is. absurd (cc);
    checks = λ of running is honest. absurd (cc is);
    works = λ alive. (λ works. works, λ works. works);
    here_spares = λ no_reclaim. none_spares (kept_pool old.here);
    there_spares = λ no_reclaim. none_spares (kept_pool old.there);
    full = λ need largest is. absurd (cc);
  })

  -- no send has the id
  pub close_missed : EngineFits old → position (λ one. one.id == id) old.sends.items ≡ None → StepsEngine (events.Close id) old old (Err (no_session id))
  close_missed fits none =
      nothing_done (events.Close id) old (Err (no_session id)) (λ of is. cc is) fits
      (λ world stands.
      let way = missed_close old.now id world (no_send (kept_pool old.here) (kept_pool old.there) old.sends.items world id stands.send_stands none) in
      record { answer = sym (ap (λ (m : Moved). m.answer) way); stays = sym (ap (λ (m : Moved). m.world) way) })
      (λ is. absurd (cc)) (λ works also is. absurd (cc)) (λ need largest is. absurd (cc))
