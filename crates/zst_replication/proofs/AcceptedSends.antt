-- A receive of what was sent is refused by nothing, where there was room for it.
use Rattle.std.proofs.Common.{◌≡◌, ℕ, suc, ◌+◌, ◌≤◌, false, List, [], ◌∷◌, ◌++◌, length, Option, Some, None, Ok, refl, sym, ap, ◌∙◌, subst, append_assoc, append-nil, arith}
use Rattle.std.specs.List.{concat}
use Rattle.zst_model.specs.declared.refusals.refusal.Refusal.{Refusal}
use Rattle.zst_model.specs.declared.sends.header.Point.{Point}
use Rattle.zst_model.specs.pools.Limits.{last_number}
use Rattle.zst_model.specs.pools.Pool.{Partial, Pool}
use Rattle.zst_model.specs.sends.Headers.{Sent, header_of}
use Rattle.zst_model.specs.sends.View.{View}
use Rattle.zst_model.specs.states.State.{State}
use Rattle.zst_model.proofs.FoundElements.{own_target}
use Rattle.zst_plan.specs.RecvPlan.{Begins, RecvPlan, Resumes, component_for, recv_plan}
use Rattle.zst_plan.specs.declared.receive.RecvAsk.{RecvAsk}
use Rattle.zst_recv.specs.Answers.{is_done}
use Rattle.zst_recv.specs.Feeds.{and_feed, fault_of, fed_piece, feeds, new_records, receives}
use Rattle.zst_recv.specs.ReceiveSteps as receive_steps
use Rattle.zst_recv.specs.ReceiveSteps.{Stage, Waits, Lives, Ends, Fed, Goes, Stops, at_stage, batch_of}
use Rattle.zst_send.specs.Sends.{begun, begun_text}
use Rattle.zst_stream.specs.NearItems.{ItemsAreNear}
use Rattle.zst_stream.specs.Reading.{reading}
use Rattle.zst_replication.specs.FeedFaults.{IsRefused}
use Rattle.zst_replication.specs.Grounds.{Grounds}
use Rattle.zst_replication.specs.Outcomes.{base_objects}
use Rattle.zst_replication.specs.Replicas.{AreOfStream, IsSendable}
use Rattle.zst_replication.specs.Resumption.{GivesRest, IsUnderway, TokensGoOn}
use Rattle.zst_replication.specs.TakenSends.{RestIsAccepted, RestIsTaken, SentIsAccepted}
use Rattle.zst_replication.proofs.FeedSequences.{Way, ended_feed, fed_ended, feed_worked, receives_way}
use Rattle.zst_replication.proofs.FeedSteps.{goes_on}
use Rattle.zst_replication.proofs.FreshReceives.{begins_with}
use Rattle.zst_replication.proofs.KeptReceives.{concat_both}
use Rattle.zst_replication.proofs.ReceivePlans.{begins_anew}
use Rattle.zst_replication.proofs.RefusedFeeds.{put_once, receives_last, stream_fault}
use Rattle.zst_replication.proofs.ReplicaLemmas.{BeginsWith}
use Rattle.zst_replication.proofs.ResumedReceives as resumed_receives
use Rattle.zst_replication.proofs.ResumedReceives.{also_underway}
use Rattle.zst_replication.proofs.RoomyReceives.{HasPlace, fresh_place, put_passes, resumed_place}
use Rattle.zst_replication.proofs.TakenSends.{batch, by_commit, no_fault, taken}

-- ---- pieces up to the first that is refused

-- a piece behind others is refused
record StopsAt (ask : RecvAsk) (text : List ℕ) (pieces : List (List ℕ)) (stage : Stage) (pool after : Pool) (refusal : Refusal) : Type 0 where
  done : List (List ℕ)
  piece : List ℕ
  rest : List (List ℕ)
  split : pieces ≡ done ++ piece ∷ rest
  now : Pool
  standing : Stage
  went : feeds ask text done stage pool ≡ Goes now standing
  stops : fed_piece ask (text ++ concat done) piece standing now ≡ Stops after refusal

stops_at : (ask : RecvAsk) (text : List ℕ) (pieces : List (List ℕ)) (stage : Stage) (pool after : Pool) (refusal : Refusal) → feeds ask text pieces stage pool ≡ Stops after refusal
    → StopsAt ask text pieces stage pool after refusal
unfolding feeds
stops_at ask text [] stage pool after refusal e = absurd cc
stops_at ask text (piece ∷ rest) stage pool after refusal e =
    go (fed_piece ask text piece stage pool) refl e (λ next standing more. stops_at ask (text ++ piece) rest standing next after refusal more)
  where
    go : (f : Fed) → fed_piece ask text piece stage pool ≡ f → and_feed f (feeds ask (text ++ piece) rest) ≡ Stops after refusal
        → ((next : Pool) (standing : Stage) → feeds ask (text ++ piece) rest standing next ≡ Stops after refusal → StopsAt ask (text ++ piece) rest standing next after refusal)
        → StopsAt ask text (piece ∷ rest) stage pool after refusal
    go (Goes next standing) is e on =
        let found = on next standing e in
        record {
          done = piece ∷ found.done;
          piece = found.piece;
          rest = found.rest;
          split = ap (λ (ps : List (List ℕ)). piece ∷ ps) found.split;
          now = found.now;
          standing = found.standing;
          went = ap (λ (f : Fed). and_feed f (feeds ask (text ++ piece) found.done)) is ∙ found.went;
          stops = ap (λ (t : List ℕ). fed_piece ask t found.piece found.standing found.now) (sym (append_assoc text piece (concat found.done))) ∙ found.stops;
        }
    go (Stops other fault) is e on = record {
      done = [];
      piece = piece;
      rest = rest;
      split = refl;
      now = pool;
      standing = stage;
      went = refl;
      stops = ap (λ (t : List ℕ). fed_piece ask t piece stage pool) (append-nil text) ∙ is ∙ e;
    }

-- each piece raises the number by one at most
numbers_rise : (ask : RecvAsk) (text : List ℕ) (pieces : List (List ℕ)) (stage after : Stage) (pool next : Pool) → feeds ask text pieces stage pool ≡ Goes next after → next.number ≤ pool.number + length pieces
unfolding feeds
numbers_rise ask text [] stage after pool next e = let same : pool.number ≡ next.number = same_pool pool next stage after e in omega (arith, same)
  where
    same_pool : (a b : Pool) (s t : Stage) → Goes a s ≡ Goes b t → a.number ≡ b.number
    same_pool a b s t e = cc
numbers_rise ask text (piece ∷ rest) stage after pool next e =
    go (fed_piece ask text piece stage pool) refl e (λ now standing more. numbers_rise ask (text ++ piece) rest standing after now next more)
  where
    go : (f : Fed) → fed_piece ask text piece stage pool ≡ f → and_feed f (feeds ask (text ++ piece) rest) ≡ Goes next after
        → ((now : Pool) (standing : Stage) → feeds ask (text ++ piece) rest standing now ≡ Goes next after → next.number ≤ now.number + length rest) → next.number ≤ pool.number + suc (length rest)
    go (Goes now standing) is e on =
        let fed = goes_on ask (new_records text piece) (fault_of (reading (text ++ piece)).outcome) stage standing pool now is in
        let once = put_once (batch_of ask pool (new_records text piece) (at_stage stage)).batch pool now fed.put_is in
        let more = on now standing e in
        omega (arith, once, more)
    go (Stops now refusal) is e on = absurd cc

-- ---- a receive of a send

module _ (laws : Grounds) (near : ItemsAreNear) (sent : Sent) (at : Option Point) (can : IsSendable sent at) (ask : RecvAsk) (start : Pool) (state : State) (partial : Partial)
    (from : BeginsWith sent at ask start state partial) (plan : RecvPlan) (plans : recv_plan ask (begun sent at) start ≡ Ok plan) (place : HasPlace ask start) where
  module _ (after : Pool) (pieces : List (List ℕ)) (refusal : Refusal) (of : AreOfStream pieces sent at) (counts : start.number + length pieces ≤ last_number) (e : receives ask start pieces ≡ Stops after refusal) where
    found : StopsAt ask [] pieces Waits start after refusal
    found = stops_at ask [] pieces Waits start after refusal e

    -- the pieces up to it are of the stream
    of_front : AreOfStream (found.done ++ found.piece ∷ []) sent at
    of_front = (
      concat found.rest ++ of.0,
      of.1,
      sym (append_assoc (concat (found.done ++ found.piece ∷ [])) (concat found.rest) of.0)
          ∙ ap (λ (t : List ℕ). t ++ of.0)
          (sym (concat_both (found.done ++ found.piece ∷ []) found.rest)
          ∙ ap (λ (ps : List (List ℕ)). concat ps) (append_assoc found.done (found.piece ∷ []) found.rest ∙ sym found.split))
          ∙ of.2,
    )

    small : found.now.number + 1 ≤ last_number
    small =
        let up = numbers_rise ask [] found.done Waits found.standing start found.now found.went in
        let n : length pieces ≡ length (found.done ++ found.piece ∷ found.rest) = ap (λ (ps : List (List ℕ)). length ps) found.split in
        let m = longer found.done in
        omega (arith, up, n, m, counts)
      where
        longer : (ps : List (List ℕ)) → length ps + 1 ≤ length (ps ++ found.piece ∷ found.rest)
        longer [] = omega arith
        longer (p ∷ ps) = let rest = longer ps in omega (arith, rest)

    -- a piece that stands before END isn't refused
    before_end : is_done found.standing ≡ false → ⊥
    before_end unended =
        let last = receives_last ask start found.now found.done found.piece found.standing found.went in
        let is : IsRefused ask start found.done found.piece found.now after refusal = record { stage = found.standing; went = found.went; unended = unended; stops = last ∙ found.stops } in
        let way = subst (λ (f : Fed). Way laws.applied ask start (reading (concat found.done)).covered f) found.went (receives_way laws.applied ask start laws.fronts found.done) in
        let worked = feed_worked ask start found.standing found.now (new_records (concat found.done) found.piece) way.0 in
        put_passes ask start place found.standing found.now (batch laws near sent at can ask start state partial from plan plans found.now after found.done found.piece refusal of_front is) refusal unended way.0 worked small
        (by_commit laws near sent at can ask start state partial from plan plans found.now after found.done found.piece refusal of_front is)

    -- nor one behind it, since what is read has no fault
    behind_end : (last : Partial) → found.standing ≡ Ends last → ⊥
    behind_end last ends = go (fault_of (reading text).outcome) refl told
      where
        text : List ℕ
        text = concat found.done ++ found.piece

        told : ended_feed last found.now (fault_of (reading text).outcome) ≡ Stops after refusal
        told =
            sym (fed_ended ask (new_records (concat found.done) found.piece) (fault_of (reading text).outcome) last found.now)
            ∙ subst (λ (s : Stage). fed_piece ask (concat found.done) found.piece s found.now ≡ Stops after refusal) ends found.stops

        text_is : text ++ of_front.0 ≡ begun_text sent at ++ of_front.1
        text_is =
            ap (λ (t : List ℕ). t ++ of_front.0) (sym (concat_both found.done (found.piece ∷ []) ∙ ap (λ (t : List ℕ). concat found.done ++ t) (append-nil found.piece))) ∙ of_front.2

        go : (o : Option Refusal) → fault_of (reading text).outcome ≡ o → ended_feed last found.now o ≡ Stops after refusal → ⊥
        go None is e = cc
        go (Some fault) is e =
            let read = stream_fault (reading text).outcome fault is in
            no_fault laws near sent at can ask start state partial from plan plans text of_front.0 of_front.1 text_is read.0 read.1

    pub accepted : ⊥
    accepted = go found.standing refl
      where
        go : (s : Stage) → found.standing ≡ s → ⊥
        go Waits is = before_end (ap is_done is)
        go (Lives flags other) is = before_end (ap is_done is)
        go (Ends last) is = behind_end last is

pub sent_accepted : Grounds → ItemsAreNear → SentIsAccepted
sent_accepted laws near sent ask start after component base pieces refusal can lawful none matches begins of counts e =
    let from = begins_with laws sent can ask start lawful none matches component base begins in
    let fresh = begins_anew ask (header_of sent) start (Begins component base) none begins in
    accepted laws near sent None can ask start (base_objects base).state (receive_steps.begun ask (header_of sent) component base) from (Begins component base) begins (fresh_place ask start none fresh.room)
    after pieces refusal of counts e

-- ---- the rest of a send

module _ (go_on : TokensGoOn) (sent also : Sent) (state : State) (ask : RecvAsk) (start : Pool) (partial : Partial) (component : List ℕ) (underway : IsUnderway sent ask.target state start partial)
    (rest : GivesRest sent also partial.point) (named : component_for ask (header_of sent) ≡ Ok component) where
  also_on : IsUnderway also ask.target state start partial
  also_on = also_underway sent also ask.target state start partial rest.same_view underway

  -- the rest's plan passes
  goes : recv_plan ask (begun also (Some partial.point)) start ≡ Ok (Resumes partial)
  goes =
      (go_on also state ask start partial component also_on
      (ap (λ (v : View). component_for ask v.header) rest.same_view ∙ named)).1

pub rest_taken : Grounds → ItemsAreNear → TokensGoOn → RestIsTaken
rest_taken laws near go_on sent also state ask start pool after partial component pieces piece refusal lawful underway rest named of is =
    taken laws near also (Some partial.point) rest.sendable ask start state partial
    (resumed_receives.begins_with also state ask start partial lawful (also_on go_on sent also state ask start partial component underway rest named)) (Resumes partial)
    (goes go_on sent also state ask start partial component underway rest named) pool after pieces piece refusal of is

pub rest_accepted : Grounds → ItemsAreNear → TokensGoOn → RestIsAccepted
rest_accepted laws near go_on sent also state ask start after partial component pieces refusal lawful fits underway rest named of counts e =
    accepted laws near also (Some partial.point) rest.sendable ask start state partial
    (resumed_receives.begins_with also state ask start partial lawful (also_on go_on sent also state ask start partial component underway rest named)) (Resumes partial)
    (goes go_on sent also state ask start partial component underway rest named)
    (resumed_place ask start partial underway.there (own_target ask.target start partial underway.there) fits) after pieces refusal of counts e
