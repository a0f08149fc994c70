-- An event that ends a receive.
use Rattle.std.proofs.Common.{◌≡◌, ◌≢◌, inl, inr, ◌<◌, ◌==◌, ℕ, true, not, List, filter, get_or, length, Option, Some, None, Err, refl, sym, ap, ◌∙◌, subst}
use Rattle.std.specs.List.{All, Contains, position, remove}
use Rattle.std.specs.Option.{option_map_or}
use Rattle.std.specs.Prelude.{IsTrue}
use Rattle.std.proofs.lemmas.List.Elements.{All-contains_itself}
use Rattle.std.proofs.lemmas.List.Quantifiers.{position-Some}
use Rattle.zst_outside.specs.Images.{Leaves, Leaves-none, Leaves-weaker}
use Rattle.zst_outside.specs.declared.disk.Disk.{Ghosts}
use Rattle.zst_image.specs.Reads.{Reads}
use Rattle.zst_model.proofs.FoundElements.{found_passes}
use Rattle.zst_model.specs.declared.refusals.refusal.Refusal.{Refusal}
use Rattle.zst_model.specs.declared.refusals.refusal.Refusal.TheVariants as refusals
use Rattle.zst_model.specs.declared.refusals.stream_fault.StreamFault.TheVariants.{Truncated}
use Rattle.zst_model.specs.pools.KeptPool.{kept_of}
use Rattle.zst_model.specs.pools.Pool.{Pool}
use Rattle.zst_plan.specs.declared.receive.RecvAsk.{RecvAsk}
use Rattle.zst_pool.proofs.PartialRows.{kept_stays}
use Rattle.zst_recv.specs.GoingOn.{FittingReceive, ReceivesGoOn}
use Rattle.zst_recv.specs.ReceiveSteps.{Stage, Waits, Lives, Ends, left_by}
use Rattle.zst_recv.specs.Stages.{RecvFits, ask_of, fed_of}
use Rattle.zst_script.specs.declared.event.Event.TheVariants as events
use Rattle.zst_script.specs.declared.event.Side.{Side}
use Rattle.zst_script.specs.declared.event.Side.TheVariants.{Here, There}
use Rattle.zst_send.specs.Sends.{SendsGoOn}
use Rattle.zst_sessions.proofs.Beside.{receive_beside, sends_beside, sessions_fit_beside}
use Rattle.zst_sessions.proofs.ChangedMatches.{All-others, All-remove, AllPairs-remove, found_at, left_match}
use Rattle.zst_sessions.proofs.ChangedSides.{changed, other_target, side_stands, stands_changed}
use Rattle.zst_sessions.proofs.EndedSessions.{reads_as_kept}
use Rattle.zst_sessions.proofs.ReceiveEnds.{same_later}
use Rattle.zst_sessions.proofs.RemovedSessions.{none_matched}
use Rattle.zst_sessions.proofs.SparedBlocks.{kept_spares, none_spares}
use Rattle.zst_sessions.proofs.UnmovedEngines.{nothing_done, stays_later}
use Rattle.zst_sessions.specs.Endings.{EndsReceive}
use Rattle.zst_sessions.specs.EngineSteps.{EngineFits, ReceiveFits, SessionsFit, StepsEngine, here_with, kept_pool, target_of, there_with}
use Rattle.zst_sessions.specs.Engines.{Kept, MayLeave, PoolStands, ReceiveStandsOn, Stands, Steps, kept_at}
use Rattle.zst_sessions.specs.Lawfulness.{MovesKeepWorlds}
use Rattle.zst_sessions.specs.Moves.{Answer, Moved, cut_off, moved, no_session, refuses}
use Rattle.zst_sessions.specs.Numbers.{NumbersRise}
use Rattle.zst_sessions.specs.Replay.{AsDefined, Moves}
use Rattle.zst_sessions.specs.World.{OpenPool, OpenReceive, World, at_side, receive_with}
use Rattle.zst_sessions.specs.declared.engine.Engine.{Engine}
use Rattle.zst_sessions.specs.declared.open_sessions.OpenReceive as kept_receives
use Rattle.zst_sessions.specs.declared.open_sessions.OpenSend as kept_sends

-- E20 tells so many bytes
abbrev pub cut_at : ℕ → Refusal
cut_at count = refusals.Stream (Truncated count)

module _ (now id : ℕ) (world : World) where
  -- what it is once the receive is found
  found_cut : (receive : OpenReceive) → receive_with id world ≡ Some receive → moved now (events.Cut id) world ≡ refuses (cut_at (length receive.text)) (cut_off receive world)
  unfolding moved
  found_cut receive found = ap (λ (o : Option OpenReceive). option_map_or (λ r. refuses (cut_at (length r.text)) (cut_off r world)) o (refuses (no_session id) world)) found

  -- and where it isn't
  missed_cut : receive_with id world ≡ None → moved now (events.Cut id) world ≡ refuses (no_session id) world
  unfolding moved
  missed_cut none = ap (λ (o : Option OpenReceive). option_map_or (λ r. refuses (cut_at (length r.text)) (cut_off r world)) o (refuses (no_session id) world)) none

-- the end of a receive is no change of what the image keeps
kept_left : (stage : Stage) (running : Pool) → kept_of (left_by stage running) ≡ kept_of running
kept_left Waits running = refl
kept_left (Lives flags partial) running = kept_stays partial.target running
kept_left (Ends partial) running = refl

-- ---- what a crash may leave

none_here : (side : Side) (here there new : Kept) (P : List ℕ → Type 0) → Leaves (kept_at side here there).disk new.disk (λ c. ⊥) → Leaves here.disk (here_with side new here).disk P
none_here Here here there new P none = Leaves-weaker here.disk new.disk (λ c. ⊥) P none (λ c no. absurd no)
none_here There here there new P none = Leaves-none here.disk P

none_there : (side : Side) (here there new : Kept) (P : List ℕ → Type 0) → Leaves (kept_at side here there).disk new.disk (λ c. ⊥) → Leaves there.disk (there_with side new there).disk P
none_there Here here there new P none = Leaves-none there.disk P
none_there There here there new P none = Leaves-weaker there.disk new.disk (λ c. ⊥) P none (λ c no. absurd no)

-- ---- the event

module _ (now id : ℕ) (here there new : Kept) (sends : List kept_sends.OpenSend) (coded : List kept_receives.OpenReceive) (place : ℕ) (one : kept_receives.OpenReceive) (world : World)
    (sends_go : SendsGoOn) (go_on : ReceivesGoOn) (fitting : FittingReceive) (keep : MovesKeepWorlds) (rise : NumbersRise)
    (stands : Stands true here there sends coded world) (below : place < length coded) (is_there : get_or coded place one ≡ one) where
  module _ (receive : OpenReceive) (found : receive_with id world ≡ Some receive) (matches : ReceiveStandsOn true (kept_at receive.side here there) (at_side receive.side world).pool one receive)
      (ends : EndsReceive (kept_at receive.side here there) new one.recv) (tells : IsTrue (kept_at receive.side here there).tells) where
    abbrev old : Kept
    old = kept_at receive.side here there

    abbrev pool : Pool
    pool = (at_side receive.side world).pool

    abbrev left : OpenPool
    left = record { pool = left_by receive.stage pool; failed = (at_side receive.side world).failed }

    abbrev leaves : List OpenReceive → List OpenReceive
    leaves = filter (λ r. not (r.id == receive.id))

    abbrev next : World
    next = changed receive.side left leaves world

    abbrev answer : Answer
    answer = Err (cut_at (length receive.text))

    moves : Moves now world (events.Cut id) answer next
    moves = let way = found_cut now id world receive found in AsDefined (sym (ap (λ (m : Moved). m.answer) way)) (sym (ap (λ (m : Moved). m.world) way))

    old_stands : PoolStands true old (at_side receive.side world)
    old_stands = side_stands receive.side here there world stands.here_stands stands.there_stands

    there_is : Contains world.receives receive
    there_is = (found_passes (λ r. r.id == id) world.receives receive found).0

    -- the pool
    reads : Reads true (kept_of pool) old.disk.seen
    reads = reads_as_kept true old (at_side receive.side world) old_stands tells

    pool_stands : PoolStands true new left
    pool_stands = record {
      mark = ends.failed ∙ old_stands.mark;
      rests = λ works. let worked = sym ends.failed ∙ works in ends.rests pool receive.text receive.stage (old_stands.rests worked) (matches.receives worked);
      ready = ends.keeps.leaves.ready;
      lost = λ fell told. subst (λ (p : Pool). Reads true p new.disk.seen) (sym (kept_left receive.stage pool)) (subst (Reads true (kept_of pool)) (sym ends.seen) reads);
    }

    -- the others
    abbrev Known : OpenReceive → Type 0
    Known r = Contains world.receives r

    abbrev Old : kept_receives.OpenReceive → OpenReceive → Type 0
    Old x r = ReceiveStandsOn true (kept_at r.side here there) (at_side r.side world).pool x r

    abbrev New : kept_receives.OpenReceive → OpenReceive → Type 0
    New x r = ReceiveStandsOn true (kept_at r.side (here_with receive.side new here) (there_with receive.side new there)) (at_side r.side next).pool x r

    others : (r : OpenReceive) → Known r → r.id ≢ receive.id → r.side ≡ receive.side → ¬ (r.ask.target ≡ (ask_of one.recv).target)
    others r known apart sides same = other_target world stands.lawful r receive known there_is apart sides (same ∙ ap (λ (a : RecvAsk). a.target) matches.ask)

    stand_on : (x : kept_receives.OpenReceive) (r : OpenReceive) → Old x r → Known r → r.id ≢ receive.id → New x r
    stand_on x r was known apart =
        receive_beside go_on fitting (λ target. target ≡ (ask_of one.recv).target) receive.side r.side here there new ends.keeps (at_side r.side world).pool (at_side r.side next).pool
        (rise now world next (events.Cut id) answer r.side moves) x r (λ sides. others r known apart sides) was

    at : (get_or coded place one).id ≡ receive.id
    at = ap (λ (r : kept_receives.OpenReceive). r.id) is_there ∙ matches.id

    cut_steps : Steps true now world (events.Cut id) here there (here_with receive.side new here) (there_with receive.side new there) sends (remove coded place) answer
    cut_steps = record {
      next = next;
      moves = moves;
      stands = stands_changed receive.side here there new sends coded (remove coded place) world left leaves stands pool_stands
          (sends_beside sends_go receive.side (λ target. target ≡ (ask_of one.recv).target) here there new sends world.sends ends.keeps stands.send_stands)
          (left_match Old New (λ x. x.id) (λ r. r.id) (λ x r was. was.id) receive.id Known stand_on coded world.receives place one stands.lawful.receives (All-contains_itself world.receives) stands.receive_stands below at)
          (keep now world next (events.Cut id) answer moves stands.lawful);
      here_moments = none_here receive.side here there new (MayLeave true Here (events.Cut id) here world (moved now (events.Cut id) world).world) ends.moments;
      there_moments = none_there receive.side here there new (MayLeave true There (events.Cut id) there world (moved now (events.Cut id) world).world) ends.moments;
    }

  -- the receive at a place that has this id was ended on its side
  pub cut_on : (side : Side) → one.side ≡ side → position (λ r. r.id == id) coded ≡ Some place → EndsReceive (kept_at side here there) new one.recv → IsTrue (kept_at side here there).tells
      → Steps true now world (events.Cut id) here there (here_with side new here) (there_with side new there) sends (remove coded place) (Err (cut_at (fed_of one.recv)))
  cut_on side on is ends tells =
      let found = found_at (λ x r. ReceiveStandsOn true (kept_at r.side here there) (at_side r.side world).pool x r) (λ r. r.id == id) (λ r. r.id == id) (λ x r was. ap (λ (n : ℕ). n == id) was.id)
      coded world.receives stands.receive_stands place one is in
      let receive : OpenReceive = found.0 in
      let matches : ReceiveStandsOn true (kept_at receive.side here there) (at_side receive.side world).pool one receive =
      subst (λ (x : kept_receives.OpenReceive). ReceiveStandsOn true (kept_at receive.side here there) (at_side receive.side world).pool x receive) is_there found.2 in
      let same : side ≡ receive.side = sym on ∙ matches.side in
      subst (λ (s : Side). Steps true now world (events.Cut id) here there (here_with s new here) (there_with s new there) sends (remove coded place) (Err (cut_at (fed_of one.recv)))) (sym same)
      (subst (λ (n : ℕ). Steps true now world (events.Cut id) here there (here_with receive.side new here) (there_with receive.side new there) sends (remove coded place) (Err (cut_at n))) (sym matches.fed)
      (cut_steps receive found.1 matches (subst (λ (s : Side). EndsReceive (kept_at s here there) new one.recv) same ends) (subst (λ (s : Side). IsTrue (kept_at s here there).tells) same tells)))

-- What is kept of the receive at a place is in its ranges beside the rows of its pool.
pub fits_at : (side : Side) (here there : Kept) (coded : List kept_receives.OpenReceive) (id place : ℕ) (one : kept_receives.OpenReceive) → position (λ r. r.id == id) coded ≡ Some place
    → get_or coded place one ≡ one → one.side ≡ side → All (λ r. ReceiveFits (kept_at r.side here there).state.dir r) coded → RecvFits (kept_at side here there).state.dir one.recv
fits_at side here there coded id place one is is_there on fits =
    let all : ReceiveFits (kept_at (get_or coded place one).side here there).state.dir (get_or coded place one) = fits place one (position-Some (λ (r : kept_receives.OpenReceive). r.id == id) coded place one is).0 in
    let its : ReceiveFits (kept_at one.side here there).state.dir one = subst (λ (r : kept_receives.OpenReceive). ReceiveFits (kept_at r.side here there).state.dir r) is_there all in
    subst (λ (s : Side). RecvFits (kept_at s here there).state.dir one.recv) on its.fits

-- two receives into one pool have two targets
abbrev Apart : kept_receives.OpenReceive → kept_receives.OpenReceive → Type 0
Apart a b = a.side ≡ b.side → target_of a ≢ target_of b

-- What is kept of the sessions that stay is in its ranges.
cut_fit : (fitting : FittingReceive) (side : Side) (here there new : Kept) (sends : List kept_sends.OpenSend) (coded : List kept_receives.OpenReceive) (place : ℕ) (one : kept_receives.OpenReceive)
    → place < length coded → get_or coded place one ≡ one → one.side ≡ side → EndsReceive (kept_at side here there) new one.recv → SessionsFit here there sends coded
    → SessionsFit (here_with side new here) (there_with side new there) sends (remove coded place)
cut_fit fitting side here there new sends coded place one below is_there on ends fits =
    sessions_fit_beside fitting side (λ target. target ≡ (ask_of one.recv).target) here there new sends (remove coded place) ends.keeps.leaves others (record {
      here_ready = fits.here_ready;
      there_ready = fits.there_ready;
      sends_fit = fits.sends_fit;
      receives_fit = All-remove (λ (r : kept_receives.OpenReceive). ReceiveFits (kept_at r.side here there).state.dir r) coded place fits.receives_fit;
      targets = AllPairs-remove Apart coded place fits.targets;
    })
  where
    others : All (λ r. r.side ≡ side → ¬ (target_of r ≡ (ask_of one.recv).target)) (remove coded place)
    others k d lt = elim (All-others Apart coded place one below fits.targets k d lt) [
      | inl before ↦ (λ sides same. before (ap (λ (r : kept_receives.OpenReceive). r.side) is_there ∙ on ∙ sym sides) (ap (λ (r : kept_receives.OpenReceive). target_of r) is_there ∙ sym same))
      | inr behind ↦ (λ sides same. behind (sides ∙ sym on ∙ sym (ap (λ (r : kept_receives.OpenReceive). r.side) is_there)) (same ∙ sym (ap (λ (r : kept_receives.OpenReceive). target_of r) is_there)))
    ]

-- ---- the engine

module _ {D E : Type 0} {g : Ghosts D} {h : Ghosts E} (old : Engine D E g h) (id : ℕ) (fits : EngineFits old) where
  -- no receive has the id
  pub cut_missed : position (λ one. one.id == id) old.receives.items ≡ None → StepsEngine (events.Cut id) old old (Err (no_session id))
  cut_missed none =
      nothing_done (events.Cut id) old (Err (no_session id)) (λ of which. cc which) fits
      (λ world stands.
      let way = missed_cut old.now id world
      (none_matched (λ one receive. ReceiveStandsOn true (kept_at receive.side (kept_pool old.here) (kept_pool old.there)) (at_side receive.side world).pool one receive)
      (λ (one : kept_receives.OpenReceive). one.id) (λ (receive : OpenReceive). receive.id) (λ one receive is. is.id) id old.receives.items world.receives stands.receive_stands none) in
      record { answer = sym (ap (λ (m : Moved). m.answer) way); stays = sym (ap (λ (m : Moved). m.world) way) })
      (λ is. absurd (cc)) (λ works also is. absurd (cc)) (λ need largest is. absurd (cc))

  module _ (sends_go : SendsGoOn) (go_on : ReceivesGoOn) (fitting : FittingReceive) (keep : MovesKeepWorlds) (rise : NumbersRise) (new : Engine D E g h) (place : ℕ) (one : kept_receives.OpenReceive)
      (is : position (λ r. r.id == id) old.receives.items ≡ Some place) (is_there : get_or old.receives.items place one ≡ one) (taken : new.receives.items ≡ remove old.receives.items place) where
    below : place < length old.receives.items
    below = (position-Some (λ (r : kept_receives.OpenReceive). r.id == id) old.receives.items place one is).0

    pub cut_here : new ≡ record old { here = new.here; receives = new.receives } → one.side ≡ Here → EndsReceive (kept_pool old.here) (kept_pool new.here) one.recv → new.here.io ≡ old.here.io
        → StepsEngine (events.Cut id) old new (Err (cut_at (fed_of one.recv)))
    cut_here changes on ends io = subst (λ (e : Engine D E g h). StepsEngine (events.Cut id) old e (Err (cut_at (fed_of one.recv)))) (sym changes) (record {
      steps = λ world honest also tells told stands.
          subst (λ (left : List kept_receives.OpenReceive). Steps true old.now world (events.Cut id) (kept_pool old.here) (kept_pool old.there) (kept_pool new.here) (kept_pool old.there) old.sends.items left (Err (cut_at (fed_of one.recv)))) (sym taken)
          (cut_on old.now id (kept_pool old.here) (kept_pool old.there) (kept_pool new.here) old.sends.items old.receives.items place one world sends_go go_on fitting keep rise stands below is_there Here on is ends tells);
      fits = record {
        sessions = subst (λ (left : List kept_receives.OpenReceive). SessionsFit (kept_pool new.here) (kept_pool old.there) old.sends.items left) (sym taken)
            (cut_fit fitting Here (kept_pool old.here) (kept_pool old.there) (kept_pool new.here) old.sends.items old.receives.items place one below is_there on ends fits.sessions);
        room = fits.room;
      };
      later = record { here = same_later old.here new.here io; there = stays_later old.there; time = refl };
      cause = λ told. absurd (cc);
      open_still = λ works also told. absurd (cc);
      checks = λ of running which honest. absurd (cc which);
      works = λ alive. (λ works. ends.failed ∙ works, λ works. works);
      here_spares = λ no_reclaim. kept_spares (λ target. target ≡ (ask_of one.recv).target) (kept_pool old.here) (kept_pool new.here) ends.keeps;
      there_spares = λ no_reclaim. none_spares (kept_pool old.there);
      full = λ need largest told. absurd (cc);
    })

    pub cut_there : new ≡ record old { there = new.there; receives = new.receives } → one.side ≡ There → EndsReceive (kept_pool old.there) (kept_pool new.there) one.recv → new.there.io ≡ old.there.io
        → StepsEngine (events.Cut id) old new (Err (cut_at (fed_of one.recv)))
    cut_there changes on ends io = subst (λ (e : Engine D E g h). StepsEngine (events.Cut id) old e (Err (cut_at (fed_of one.recv)))) (sym changes) (record {
      steps = λ world honest also tells told stands.
          subst (λ (left : List kept_receives.OpenReceive). Steps true old.now world (events.Cut id) (kept_pool old.here) (kept_pool old.there) (kept_pool old.here) (kept_pool new.there) old.sends.items left (Err (cut_at (fed_of one.recv)))) (sym taken)
          (cut_on old.now id (kept_pool old.here) (kept_pool old.there) (kept_pool new.there) old.sends.items old.receives.items place one world sends_go go_on fitting keep rise stands below is_there There on is ends told);
      fits = record {
        sessions = subst (λ (left : List kept_receives.OpenReceive). SessionsFit (kept_pool old.here) (kept_pool new.there) old.sends.items left) (sym taken)
            (cut_fit fitting There (kept_pool old.here) (kept_pool old.there) (kept_pool new.there) old.sends.items old.receives.items place one below is_there on ends fits.sessions);
        room = fits.room;
      };
      later = record { here = stays_later old.here; there = same_later old.there new.there io; time = refl };
      cause = λ told. absurd (cc);
      open_still = λ works also told. absurd (cc);
      checks = λ of running which honest. absurd (cc which);
      works = λ alive. (λ works. works, λ works. ends.failed ∙ works);
      here_spares = λ no_reclaim. none_spares (kept_pool old.here);
      there_spares = λ no_reclaim. kept_spares (λ target. target ≡ (ask_of one.recv).target) (kept_pool old.there) (kept_pool new.there) ends.keeps;
      full = λ need largest told. absurd (cc);
    })
