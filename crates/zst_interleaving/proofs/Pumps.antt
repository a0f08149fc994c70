-- A feed of a receive, as an event of a world.
use Rattle.std.proofs.Common.{◌≡◌, ◌⊎◌, inl, inr, ℕ, Bool, true, false, not, List, [], ◌∷◌, ◌++◌, map, filter, find, Option, Some, Ok, refl, sym, ap, ◌∙◌, subst, cond, ◌==◌, eqb-true}
use Rattle.std.specs.Option.{option_map_or}
use Rattle.std.proofs.lemmas.Option.{same_Some}
use Rattle.zst_model.specs.declared.refusals.refusal.Refusal.TheVariants as refusals
use Rattle.zst_model.specs.pools.KeptPool.{kept_of}
use Rattle.zst_model.specs.pools.Pool.{Pool}
use Rattle.zst_model.specs.sends.Headers.{header_of, sent_view}
use Rattle.zst_model.proofs.FoundElements.{found_passes}
use Rattle.zst_recv.specs.Answers.{applied_of, is_done}
use Rattle.zst_recv.specs.ReceiveSteps.{Stage, Waits, Lives, Ends, Fed, Goes, Stops, left_by, pool_of}
use Rattle.zst_replication.specs.Outcomes.{HasOneMore, Progress}
use Rattle.zst_replication.specs.Replicas.{sent_state}
use Rattle.zst_replication.proofs.FeedSequences.{kept_left}
use Rattle.zst_replication.proofs.Rows.{none_left}
use Rattle.zst_replication.proofs.StoppedReceives.{start_untouched}
use Rattle.zst_script.specs.declared.event.Event.{Event}
use Rattle.zst_script.specs.declared.event.Event.TheVariants as events
use Rattle.zst_script.specs.declared.event.Side.{Side}
use Rattle.zst_script.specs.declared.event.Side.TheVariants.{Here, There}
use Rattle.zst_sessions.specs.Moves.{Answer, Moved, cut_off, fed_to, feeding, if_works, moved, no_session, on_receive, pumped, refuses}
use Rattle.zst_sessions.specs.Replay.{AsDefined, DiskFails, Fails, FindsNoMemory, FindsNoRoom, LosesDisk, Moves, given_up, given_up_pump, image_of, TakesNoPiece}
use Rattle.zst_sessions.specs.World.{OpenPool, OpenReceive, OpenSend, World, at_side, gone_on, moved_to, next_piece, put_receive, put_send, put_side, receive_with, send_with, with_running, without_receive}
use Rattle.zst_interleaving.specs.Courses.{IsOnCourse}
use Rattle.zst_interleaving.specs.Events.{IsOnCourseIn, PumpsAreProgress, PumpsComplete, PumpsStayOnCourse}
use Rattle.zst_interleaving.specs.Feeds.{FeedsAreProgress, FeedsStayOnCourse, FitFeedsComplete}

-- ---- pools on sides

-- what holds of a pool, and of the one that is put on a side, holds of the pool that is then there
at_put : (P : Pool → Type 0) (a side : Side) (pool : OpenPool) (world : World) → P (at_side a world).pool → (a ≡ side → P pool.pool) → P (at_side a (put_side side pool world)).pool
at_put P Here Here pool world old new = new refl
at_put P Here There pool world old new = old
at_put P There Here pool world old new = old
at_put P There There pool world old new = new refl

-- the pool that a feed leaves
fed_pool : (receive : OpenReceive) (piece : List ℕ) (applied : ℕ) (world : World) (f : Fed) → (at_side receive.side (fed_to receive piece applied world f).world).pool ≡ pool_of f
fed_pool receive piece applied world f = go receive.side f
  where
    -- the receive was put elsewhere, or was taken out
    put : (s : Side) (pool : Pool) (id : ℕ) (text : List ℕ) (stage : Stage) → (at_side s (put_receive id text stage (with_running s pool world))).pool ≡ pool
    put Here pool id text stage = refl
    put There pool id text stage = refl

    out : (s : Side) (pool : Pool) (id : ℕ) → (at_side s (without_receive id (with_running s pool world))).pool ≡ pool
    out Here pool id = refl
    out There pool id = refl

    go : (s : Side) (f : Fed) → (at_side s (fed_to (record receive { side = s }) piece applied world f).world).pool ≡ pool_of f
    go s (Goes pool Waits) = put s pool receive.id (receive.text ++ piece) Waits
    go s (Goes pool (Lives flags partial)) = put s pool receive.id (receive.text ++ piece) (Lives flags partial)
    go s (Goes pool (Ends partial)) = out s pool receive.id
    go s (Stops pool refusal) = out s pool receive.id

-- and the one that a cut leaves
cut_pool : (receive : OpenReceive) (world : World) → (at_side receive.side (cut_off receive world)).pool ≡ left_by receive.stage (at_side receive.side world).pool
cut_pool receive world = go receive.side
  where
    go : (s : Side) → (at_side s (cut_off (record receive { side = s }) world)).pool ≡ left_by receive.stage (at_side s world).pool
    go Here = refl
    go There = refl

same_pool : (s : Side) (send : OpenSend) (world : World) → (at_side s (put_send send world)).pool ≡ (at_side s world).pool
same_pool Here send world = refl
same_pool There send world = refl

-- ---- the event

module _ (now : ℕ) (world : World) (sends receives count : ℕ) (send : OpenSend) (receive : OpenReceive) (found : send_with sends world ≡ Some send) (there : receive_with receives world ≡ Some receive) where
  abbrev pump : Event
  pump = events.Pump sends receives count

  tested : (t u : Bool) (rest : Moved) → ((cond t (refuses refusals.Failed world) (cond u (refuses refusals.Failed world) rest)).world ≡ world)
      ⊎ ((cond t (refuses refusals.Failed world) (cond u (refuses refusals.Failed world) rest)).world ≡ rest.world)
  tested true u rest = inl refl
  tested false true rest = inl refl
  tested false false rest = inr refl

  found_both : moved now pump world ≡ if_works send.side world (if_works receive.side world (pumped count send receive world))
  unfolding moved
  found_both =
      ap (λ (o : Option OpenSend). option_map_or next o (refuses (no_session sends) world)) found
      ∙ ap (λ (o : Option OpenReceive). option_map_or (then send) o (refuses (no_session receives) world)) there
    where
      then : OpenSend → OpenReceive → Moved
      then one other = if_works one.side world (if_works other.side world (pumped count one other world))

      next : OpenSend → Moved
      next one = on_receive receives world (then one)

  moved_so : ((moved now pump world).world ≡ world) ⊎ ((moved now pump world).world ≡ (pumped count send receive world).world)
  moved_so =
      subst (λ (m : Moved). (m.world ≡ world) ⊎ (m.world ≡ (pumped count send receive world).world)) (sym found_both)
      (tested (at_side send.side world).failed (at_side receive.side world).failed (pumped count send receive world))

  gave_up : given_up pump world ≡ cut_off receive (put_send (gone_on count send) world)
  gave_up = ap (λ (o : Option OpenSend). given_up_pump count o (receive_with receives world) world) found ∙ ap (λ (o : Option OpenReceive). given_up_pump count (Some send) o world) there

  module _ (P : Pool → Type 0) (same : P (image_of receive.side world))
      (fed : P (kept_of (pool_of (feeding receive.ask receive.text (next_piece count send) receive.stage (at_side receive.side world).pool))))
    where
      by_moved : P (image_of receive.side (moved now pump world).world)
      by_moved = go moved_so
        where
          go : ((moved now pump world).world ≡ world) ⊎ ((moved now pump world).world ≡ (pumped count send receive world).world) → P (image_of receive.side (moved now pump world).world)
          go (inl is) = subst (λ (w : World). P (image_of receive.side w)) (sym is) same
          go (inr is) =
              subst (λ (w : World). P (image_of receive.side w)) (sym is)
              (subst (λ (p : Pool). P (kept_of p))
              (sym (fed_pool receive (next_piece count send) (applied_of receive.ask receive.text (next_piece count send) receive.stage (at_side receive.side world).pool) (put_send (gone_on count send) world)
              (feeding receive.ask receive.text (next_piece count send) receive.stage (at_side receive.side world).pool))) fed)

      by_given_up : P (image_of receive.side (given_up pump world))
      by_given_up =
          subst (λ (w : World). P (image_of receive.side w)) (sym gave_up)
          (subst P
          (sym (ap kept_of (cut_pool receive (put_send (gone_on count send) world) ∙ ap (left_by receive.stage) (same_pool receive.side (gone_on count send) world)) ∙ kept_left receive.stage (at_side receive.side world).pool))
          same)

      by_lost : (side : Side) (left done next : World) → Fails side left done next → P (image_of receive.side left) → P (image_of receive.side done) → P (image_of receive.side next)
      by_lost side left done next fails old new =
          subst (λ (w : World). P (image_of receive.side w)) (sym fails.world_is)
          (at_put (λ p. P (kept_of p)) receive.side side (record { pool = fails.pool; failed = true }) left old (λ own. go own fails.one_of))
        where
          go : receive.side ≡ side → (fails.pool ≡ (at_side side left).pool) ⊎ (fails.pool ≡ (at_side side done).pool) → P (kept_of fails.pool)
          go own (inl is) = subst (λ (p : Pool). P (kept_of p)) (sym is) (subst (λ (s : Side). P (image_of s left)) own old)
          go own (inr is) = subst (λ (p : Pool). P (kept_of p)) (sym is) (subst (λ (s : Side). P (image_of s done)) own new)

      pub by_pump : (next : World) (answer : Answer) → Moves now world pump answer next → P (image_of receive.side next)
      by_pump next answer (AsDefined a is) = subst (λ (w : World). P (image_of receive.side w)) (sym is) by_moved
      by_pump next answer (FindsNoRoom need largest a less may is) = subst (λ (w : World). P (image_of receive.side w)) (sym is) by_given_up
      by_pump next answer (FindsNoMemory a is) = subst (λ (w : World). P (image_of receive.side w)) (sym is) by_given_up
      by_pump next answer (TakesNoPiece from into most which a is) = subst (λ (w : World). P (image_of receive.side w)) (sym is) same
      by_pump next answer (LosesDisk a fails) = go fails
        where
          go : DiskFails now pump world next → P (image_of receive.side next)
          go (inl take) = by_lost take.0.side world world next take.2 same same
          go (inr feed) = by_lost feed.0.side (given_up pump world) (moved now pump world).world next feed.2 by_given_up by_moved

pub pumps_progress : FeedsAreProgress → PumpsAreProgress
pumps_progress feeds now world next sends receives count answer send receive sent also start course moves found there on lawful front may =
    let pool = (at_side receive.side world).pool in
    by_pump now world sends receives count send receive found there (λ p. Progress receive.ask (sent_view sent) course (kept_of pool) p)
    (inl (start_untouched receive.ask pool pool refl))
    (feeds sent also start receive.ask course pool receive.text (next_piece count send) receive.stage on lawful front may)
    next answer moves

-- ---- where the receive then stands

put_receives : (side : Side) (pool : OpenPool) (world : World) → (put_side side pool world).receives ≡ world.receives
put_receives Here pool world = refl
put_receives There pool world = refl

-- a receive that was put elsewhere is found there, and one that was taken out isn't found
found_moved : (id : ℕ) (text : List ℕ) (stage : Stage) (rs : List OpenReceive) (receive : OpenReceive) → find (λ r. r.id == id) rs ≡ Some receive
    → find (λ r. r.id == id) (map (moved_to id text stage) rs) ≡ Some (record receive { text = text; stage = stage })
found_moved id text stage [] receive e = absurd cc
found_moved id text stage (one ∷ rest) receive e = go (one.id == id) refl e (found_moved id text stage rest receive)
  where
    go : (t : Bool) → (one.id == id) ≡ t → cond t (Some one) (find (λ r. r.id == id) rest) ≡ Some receive
        → (find (λ r. r.id == id) rest ≡ Some receive → find (λ r. r.id == id) (map (moved_to id text stage) rest) ≡ Some (record receive { text = text; stage = stage }))
        → find (λ r. r.id == id) (cond t (record one { text = text; stage = stage }) one ∷ map (moved_to id text stage) rest) ≡ Some (record receive { text = text; stage = stage })
    go true is e on =
        ap (λ (t : Bool). cond t (Some (record one { text = text; stage = stage })) (find (λ r. r.id == id) (map (moved_to id text stage) rest))) is
        ∙ ap (λ (r : OpenReceive). Some (record r { text = text; stage = stage })) (same_Some one receive e)
    go false is e on = ap (λ (t : Bool). cond t (Some one) (find (λ r. r.id == id) (map (moved_to id text stage) rest))) is ∙ on e

module _ (now : ℕ) (world : World) (sends receives count : ℕ) (send : OpenSend) (receive : OpenReceive) (found : send_with sends world ≡ Some send) (there : receive_with receives world ≡ Some receive) where
  named : receive.id ≡ receives
  named = eqb-true receive.id receives (found_passes (λ (r : OpenReceive). r.id == receives) world.receives receive there).1

  -- where it was taken out
  gone : (rs : List OpenReceive) → rs ≡ world.receives → (after : OpenReceive) → find (λ r. r.id == receives) (filter (λ r. not (r.id == receive.id)) rs) ≡ Some after → ⊥
  gone rs same after e =
      let none = none_left (λ (r : OpenReceive). r.id == receives) rs in
      let both = sym (subst (λ (n : ℕ). find (λ (r : OpenReceive). r.id == receives) (filter (λ r. not (r.id == n)) rs) ≡ Some after) named e) ∙ none in cc

  cut_gone : (side : Side) (pool : Pool) (before : World) → before.receives ≡ world.receives → (after : OpenReceive) → receive_with receives (without_receive receive.id (with_running side pool before)) ≡ Some after → ⊥
  cut_gone side pool before same after e = gone (with_running side pool before).receives (put_receives side _ before ∙ same) after e

  abbrev piece : List ℕ
  piece = next_piece count send

  abbrev taken : World
  taken = put_send (gone_on count send) world

  -- it stands as it stood, in a pool that is as it was; or it stands behind the piece, in the pool that its feed left
  abbrev StandsAfter : World → OpenReceive → Type 0
  StandsAfter next after =
      ((after ≡ receive) × ((at_side receive.side next).pool ≡ (at_side receive.side world).pool))
      ⊎ ((pool : Pool) × (stage : Stage) × (feeding receive.ask receive.text piece receive.stage (at_side receive.side world).pool ≡ Goes pool stage) × (is_done stage ≡ false)
      × (after ≡ record receive { text = receive.text ++ piece; stage = stage }) × ((at_side receive.side next).pool ≡ pool))

  went_on : (pool : Pool) (stage : Stage) (after : OpenReceive) → receive_with receives (put_receive receive.id (receive.text ++ piece) stage (with_running receive.side pool taken)) ≡ Some after
      → after ≡ record receive { text = receive.text ++ piece; stage = stage }
  went_on pool stage after e =
      let rs = (with_running receive.side pool taken).receives in
      let had : find (λ (r : OpenReceive). r.id == receives) rs ≡ Some receive = ap (find (λ (r : OpenReceive). r.id == receives)) (put_receives receive.side _ taken) ∙ there in
      let moved_there : find (λ (r : OpenReceive). r.id == receives) (map (moved_to receive.id (receive.text ++ piece) stage) rs) ≡ Some (record receive { text = receive.text ++ piece; stage = stage }) =
      ap (λ (n : ℕ). find (λ (r : OpenReceive). r.id == receives) (map (moved_to n (receive.text ++ piece) stage) rs)) named ∙ found_moved receives (receive.text ++ piece) stage rs receive had in
      same_Some after (record receive { text = receive.text ++ piece; stage = stage }) (sym e ∙ moved_there)

  fed_after : (applied : ℕ) (f : Fed) → feeding receive.ask receive.text piece receive.stage (at_side receive.side world).pool ≡ f → (after : OpenReceive)
      → receive_with receives (fed_to receive piece applied taken f).world ≡ Some after → StandsAfter (fed_to receive piece applied taken f).world after
  fed_after applied (Goes pool Waits) is after e = inr (pool, Waits, is, refl, went_on pool Waits after e, fed_pool receive piece applied taken (Goes pool Waits))
  fed_after applied (Goes pool (Lives flags partial)) is after e =
      inr (pool, Lives flags partial, is, refl, went_on pool (Lives flags partial) after e, fed_pool receive piece applied taken (Goes pool (Lives flags partial)))
  fed_after applied (Goes pool (Ends partial)) is after e = absurd (cut_gone receive.side pool taken refl after e)
  fed_after applied (Stops pool refusal) is after e = absurd (cut_gone receive.side pool taken refl after e)

  moved_after : (after : OpenReceive) → receive_with receives (moved now (events.Pump sends receives count) world).world ≡ Some after → StandsAfter (moved now (events.Pump sends receives count) world).world after
  moved_after after e = go (moved_so now world sends receives count send receive found there)
    where
      next : World
      next = (moved now (events.Pump sends receives count) world).world

      go : (next ≡ world) ⊎ (next ≡ (pumped count send receive world).world) → StandsAfter next after
      go (inl is) = inl (same_Some after receive (sym (subst (λ (w : World). receive_with receives w ≡ Some after) is e) ∙ there), ap (λ (w : World). (at_side receive.side w).pool) is)
      go (inr is) =
          subst (λ (w : World). StandsAfter w after) (sym is)
          (fed_after (applied_of receive.ask receive.text piece receive.stage (at_side receive.side world).pool) (feeding receive.ask receive.text piece receive.stage (at_side receive.side world).pool) refl after
          (subst (λ (w : World). receive_with receives w ≡ Some after) is e))

  given_up_gone : (after : OpenReceive) → receive_with receives (given_up (events.Pump sends receives count) world) ≡ Some after → ⊥
  given_up_gone after e =
      cut_gone receive.side (left_by receive.stage (at_side receive.side taken).pool) taken refl after
      (subst (λ (w : World). receive_with receives w ≡ Some after) (gave_up now world sends receives count send receive found there) e)

  -- a disk that a take loses leaves the receive and what its pool holds
  take_after : (side : Side) (next : World) → Fails side world world next → (after : OpenReceive) → receive_with receives next ≡ Some after → StandsAfter next after
  take_after side next fails after e = inl (
    same_Some after receive (sym e ∙ ap (receive_with receives) fails.world_is ∙ ap (find (λ (r : OpenReceive). r.id == receives)) (put_receives side (record { pool = fails.pool; failed = true }) world) ∙ there),
    ap (λ (w : World). (at_side receive.side w).pool) fails.world_is
        ∙ at_put (λ (p : Pool). p ≡ (at_side receive.side world).pool) receive.side side (record { pool = fails.pool; failed = true }) world refl (λ own. go fails.one_of ∙ ap (λ (s : Side). (at_side s world).pool) (sym own)),
  )
    where
      go : (fails.pool ≡ (at_side side world).pool) ⊎ (fails.pool ≡ (at_side side world).pool) → fails.pool ≡ (at_side side world).pool
      go (inl is) = is
      go (inr is) = is

  pub pump_after : (next : World) (answer : Answer) (after : OpenReceive) → Moves now world (events.Pump sends receives count) answer next → receive_with receives next ≡ Some after → StandsAfter next after
  pump_after next answer after (AsDefined a is) e = subst (λ (w : World). StandsAfter w after) (sym is) (moved_after after (subst (λ (w : World). receive_with receives w ≡ Some after) is e))
  pump_after next answer after (FindsNoRoom need largest a less may is) e = absurd (given_up_gone after (subst (λ (w : World). receive_with receives w ≡ Some after) is e))
  pump_after next answer after (FindsNoMemory a is) e = absurd (given_up_gone after (subst (λ (w : World). receive_with receives w ≡ Some after) is e))
  pump_after next answer after (TakesNoPiece from into most which a is) e =
      inl (same_Some after receive (sym (subst (λ (w : World). receive_with receives w ≡ Some after) is e) ∙ there), ap (λ (w : World). (at_side receive.side w).pool) is)
  pump_after next answer after (LosesDisk a fails) e = go fails
    where
      go : DiskFails now (events.Pump sends receives count) world next → StandsAfter next after
      go (inl take) = take_after take.0.side next take.2 after e
      go (inr feed) =
          absurd (given_up_gone after
          (ap (find (λ (r : OpenReceive). r.id == receives)) (sym (put_receives feed.0.side (record { pool = feed.2.pool; failed = true }) (given_up (events.Pump sends receives count) world)))
          ∙ sym (ap (receive_with receives) feed.2.world_is) ∙ e))

  -- a pump that is answered with its line was fed
  pub pump_answered : (next : World) (lines : List (List ℕ)) → Moves now world (events.Pump sends receives count) (Ok lines) next
      → (at_side receive.side next).pool ≡ pool_of (feeding receive.ask receive.text piece receive.stage (at_side receive.side world).pool)
  pump_answered next lines (AsDefined a is) = ap (λ (w : World). (at_side receive.side w).pool) is ∙ go (at_side send.side world).failed (at_side receive.side world).failed refl refl
    where
      both : moved now (events.Pump sends receives count) world ≡ if_works send.side world (if_works receive.side world (pumped count send receive world))
      both = found_both now world sends receives count send receive found there

      go : (t u : Bool) → (at_side send.side world).failed ≡ t → (at_side receive.side world).failed ≡ u
          → (at_side receive.side (moved now (events.Pump sends receives count) world).world).pool ≡ pool_of (feeding receive.ask receive.text piece receive.stage (at_side receive.side world).pool)
      go true u failed also =
          absurd (let no = a ∙ ap (λ (m : Moved). m.answer) both
          ∙ ap (λ (t : Bool). (cond t (refuses refusals.Failed world) (if_works receive.side world (pumped count send receive world))).answer) failed in cc)
      go false true failed also =
          absurd (let no = a ∙ ap (λ (m : Moved). m.answer) both
          ∙ ap (λ (t : Bool). (cond t (refuses refusals.Failed world) (if_works receive.side world (pumped count send receive world))).answer) failed
          ∙ ap (λ (u : Bool). (cond u (refuses refusals.Failed world) (pumped count send receive world)).answer) also in cc)
      go false false failed also =
          ap (λ (m : Moved). (at_side receive.side m.world).pool) both
          ∙ ap (λ (t : Bool). (at_side receive.side (cond t (refuses refusals.Failed world) (if_works receive.side world (pumped count send receive world))).world).pool) failed
          ∙ ap (λ (u : Bool). (at_side receive.side (cond u (refuses refusals.Failed world) (pumped count send receive world)).world).pool) also
          ∙ fed_pool receive piece (applied_of receive.ask receive.text piece receive.stage (at_side receive.side world).pool) taken (feeding receive.ask receive.text piece receive.stage (at_side receive.side world).pool)
  pump_answered next lines (FindsNoRoom need largest a less may is) = absurd cc
  pump_answered next lines (FindsNoMemory a is) = absurd cc
  pump_answered next lines (TakesNoPiece from into most which a is) = absurd cc
  pump_answered next lines (LosesDisk a fails) = absurd cc

pub pumps_stay : FeedsStayOnCourse → PumpsStayOnCourse
pumps_stay stay now world next sends receives count answer send receive after sent also start course moves found there on lawful front may e =
    go (pump_after now world sends receives count send receive found there next answer after moves e)
  where
    go : StandsAfter now world sends receives count send receive found there next after
        → IsOnCourseIn sent also start course next after × ((after ≡ receive) ⊎ (after ≡ record receive { text = receive.text ++ next_piece count send; stage = after.stage }))
    go (inl same) = (
      subst (λ (r : OpenReceive). IsOnCourseIn sent also start course next r) (sym same.0)
          (subst (λ (p : Pool). IsOnCourse sent also start receive.ask course p receive.text receive.stage) (sym same.1) on),
      inl same.0,
    )
    go (inr fed) = (
      subst (λ (r : OpenReceive). IsOnCourseIn sent also start course next r) (sym fed.4)
          (subst (λ (p : Pool). IsOnCourse sent also start receive.ask course p (receive.text ++ next_piece count send) fed.1) (sym fed.5)
          (stay sent also start receive.ask course (at_side receive.side world).pool fed.0 receive.text (next_piece count send) receive.stage fed.1 on lawful front may fed.2 fed.3)),
      inr (fed.4 ∙ ap (λ (s : Stage). record receive { text = receive.text ++ next_piece count send; stage = s }) (sym (ap (λ (r : OpenReceive). r.stage) fed.4))),
    )

pub pumps_complete : FitFeedsComplete → PumpsComplete
pumps_complete complete now world next sends receives count lines send receive sent also start course pool last moves found there on lawful front may fit e =
    let left = pump_answered now world sends receives count send receive found there next lines moves ∙ ap pool_of e in
    subst (λ (p : Pool). HasOneMore (at_side receive.side world).pool p receive.ask.target course.component course.base (header_of sent) (sent_state sent)) (sym left)
    (complete sent also start receive.ask course (at_side receive.side world).pool pool receive.text (next_piece count send) receive.stage last on lawful front may fit e)
