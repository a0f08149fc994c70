-- A receive on its course.
use Rattle.std.proofs.Common.{◌≡◌, ◌⊎◌, inl, inr, ℕ, ◌+◌, Bool, true, false, List, [], ◌++◌, length, nat_lt, Option, Some, None, Ok, refl, sym, ap, ◌∙◌, subst, cond}
use Rattle.zst_model.specs.declared.refusals.faults.Quantity.TheVariants as quantities
use Rattle.zst_model.specs.declared.refusals.refusal.Refusal.TheVariants as refusals
use Rattle.zst_model.specs.declared.sends.header.Point.{Point}
use Rattle.zst_model.specs.pools.KeptPool.{kept_of}
use Rattle.zst_model.specs.pools.Pool.{IsPool, Partial, Pool, partial_of, snapshot_named}
use Rattle.zst_model.specs.sends.Headers.{Sent, header_of, sent_view}
use Rattle.zst_model.specs.sends.Target.{target}
use Rattle.zst_model.specs.sends.View.{View}
use Rattle.zst_model.specs.states.State.{State}
use Rattle.zst_model.proofs.Results.{ok_parts}
use Rattle.zst_plan.specs.RecvPlan.{snapshot_name}
use Rattle.zst_plan.specs.declared.receive.RecvAsk.{RecvAsk}
use Rattle.zst_reader.specs.InputReads.{stream_limit}
use Rattle.zst_stream.specs.Reading.{reading}
use Rattle.zst_recv.specs.Answers.{is_done}
use Rattle.zst_recv.specs.Feeds.{fault_of, fed_piece}
use Rattle.zst_recv.specs.ReceiveSteps.{Stage, Waits, Lives, Ends, Goes, Stops, begun, left_by, pool_of}
use Rattle.zst_replication.specs.Grounds.{Grounds}
use Rattle.zst_replication.specs.Outcomes.{Course, HasOneMore, Progress, course_on}
use Rattle.zst_replication.specs.Replicas.{IsSendable}
use Rattle.zst_replication.specs.Resumption.{AppliedBehind}
use Rattle.zst_replication.proofs.AppliedRecords.{Applied}
use Rattle.zst_replication.proofs.FeedSequences.{kept_left}
use Rattle.zst_replication.proofs.FreshReceives as fresh
use Rattle.zst_replication.proofs.ReplicaLemmas.{BeginsWith, further, made}
use Rattle.zst_replication.proofs.ResumedReceives as resumed
use Rattle.zst_replication.proofs.StoppedReceives.{start_untouched}
use Rattle.zst_sessions.specs.Lawfulness.{FeedsStand, IsEnded, IsStanding}
use Rattle.zst_sessions.specs.Moves.{feeding}
use Rattle.zst_interleaving.specs.Courses.{Afresh, Begun, Beside, GoingOn, GoneOn, IsFit, IsFrontOf, IsOnCourse, IsPlannedIn, MayBegin, Waiting}
use Rattle.zst_interleaving.specs.Feeds.{FeedsAreProgress, FeedsComplete, FeedsStayOnCourse, FitFeedsComplete, FreshAreFit}
use Rattle.zst_interleaving.proofs.OneFeed.{begun_stays, component_is_new, fed_applied, nothing_covered, still_waits, waiting_pool, within}
use Rattle.zst_interleaving.proofs.Moments.{covered_by, feed_complete, feed_progress}

-- a receive on this course began in this pool
record Beginning (sent also : Sent) (start : Option Point) (ask : RecvAsk) (course : Course) (began : Pool) : Type 0 where
  first : Partial
  can : IsSendable also start
  same_view : sent_view also ≡ sent_view sent
  begins : BeginsWith also start ask began course.state first
  course_is : course_on first course.state ≡ course

begun_well : Grounds → (sent also : Sent) (start : Option Point) (ask : RecvAsk) (course : Course) (pool : Pool) → IsPool pool → IsPlannedIn sent ask pool also start course → Beginning sent also start ask course pool
begun_well laws sent also start ask course pool lawful (Afresh component base can none matches begins) = record {
  first = begun ask (header_of sent) component base;
  can = can;
  same_view = refl;
  begins = fresh.begins_with laws sent can ask pool lawful none matches component base begins;
  course_is = refl;
}
begun_well laws sent also start ask course pool lawful (GoingOn other partial state underway rest) = record {
  first = partial;
  can = rest.sendable;
  same_view = rest.same_view;
  begins = resumed.begins_with other state ask pool partial lawful (resumed.also_underway sent other ask.target state pool partial rest.same_view underway);
  course_is = refl;
}

-- one snapshot more was made, which is what the view makes of the base
abbrev IsComplete : (sent : Sent) (ask : RecvAsk) (course : Course) → Pool → Pool → Type 0
IsComplete sent ask course pool next = (whole : State) × (target (sent_view sent) course.state ≡ Ok whole) × HasOneMore pool next ask.target course.component course.base (header_of sent) whole

-- what holds of a receive on its course that has begun
record Going (sent also : Sent) (start : Option Point) (ask : RecvAsk) (course : Course) (pool : Pool) (text : List ℕ) (flags : ℕ) (partial : Partial) : Type 0 where
  there : partial_of ask.target pool ≡ Some partial
  front : IsFrontOf text also start
  began : Pool
  beginning : Beginning sent also start ask course began
  behind : AppliedBehind ask began (reading text).covered flags partial

abbrev OnWay : (sent also : Sent) (start : Option Point) (ask : RecvAsk) (course : Course) → Pool → List ℕ → Stage → Type 0
OnWay sent also start ask course pool text Waits = IsFrontOf text also start × ((reading text).covered ≡ [])
OnWay sent also start ask course pool text (Lives flags partial) = Going sent also start ask course pool text flags partial
OnWay sent also start ask course pool text (Ends partial) = ⊥

module _ (laws : Grounds) (stands : FeedsStand) where
  live : (after : Stage) (partial : Partial) (flags : ℕ) (ask : RecvAsk) (next : Pool) → IsEnded (Lives flags partial) ⊎ IsStanding ask (Lives flags partial) next → partial_of ask.target next ≡ Some partial
  live after partial flags ask next (inl ends) = absurd ends
  live after partial flags ask next (inr there) = there

  module _ (sent also : Sent) (start : Option Point) (ask : RecvAsk) (course : Course) where
    -- a receive on its course stands there, behind what its text covers
    on_way : (pool : Pool) (text : List ℕ) (stage : Stage) → IsOnCourse sent also start ask course pool text stage → OnWay sent also start ask course pool text stage
    on_way _ _ _ (Waiting pool text front none) = (front, none)
    on_way _ _ _ (Begun pool next text piece flags partial lawful none planned front e) = record {
      there = live (Lives flags partial) partial flags ask next (stands ask text piece Waits (Lives flags partial) pool next tt e);
      front = front;
      began = pool;
      beginning = begun_well laws sent also start ask course pool lawful planned;
      behind = fed_applied laws.applied laws.fronts ask pool pool next text piece Waits (Lives flags partial) (refl, none) (within ask text piece Waits (Lives flags partial) pool next e);
    }
    on_way _ _ _ (GoneOn pool next text piece flags more partial further on front e) =
        let going = on_way pool text (Lives flags partial) on in
        record {
          there = live (Lives more further) further more ask next (stands ask text piece (Lives flags partial) (Lives more further) pool next going.there e);
          front = front;
          began = going.began;
          beginning = going.beginning;
          behind = fed_applied laws.applied laws.fronts ask going.began pool next text piece (Lives flags partial) (Lives more further) going.behind
              (within ask text piece (Lives flags partial) (Lives more further) pool next e);
        }
    on_way _ _ _ (Beside pool other text flags partial on same) =
        let going = on_way pool text (Lives flags partial) on in
        record { there = same ∙ going.there; front = going.front; began = going.began; beginning = going.beginning; behind = going.behind }

    -- ---- one feed, into a pool that is found

    module _ (pool : Pool) (lawful : IsPool pool) (text piece : List ℕ) (front : IsFrontOf (text ++ piece) also start) where
      abbrev Progressed : Pool → Type 0
      Progressed now = Progress ask (sent_view sent) course (kept_of pool) now

      -- a feed of a receive that began in a pool and stands in this one
      module _ (began : Pool) (from : Beginning sent also start ask course began) (stage : Stage) (unended : is_done stage ≡ false) (there : IsStanding ask stage pool)
          (applied : Applied ask began pool stage (reading text).covered) (new : snapshot_named (snapshot_name ask.target from.first.component) pool ≡ None)
        where
          progress_so : Progressed (kept_of (pool_of (fed_piece ask text piece stage pool)))
          progress_so =
              subst (λ (c : Course). Progress ask (sent_view sent) c (kept_of pool) (kept_of (pool_of (fed_piece ask text piece stage pool)))) from.course_is
              (subst (λ (v : View). Progress ask v (course_on from.first course.state) (kept_of pool) (kept_of (pool_of (fed_piece ask text piece stage pool)))) from.same_view
              (feed_progress laws also start from.can ask began course.state from.first from.begins pool lawful new text piece stage unended there applied front))

          complete_so : (next : Pool) (last : Partial) → fed_piece ask text piece stage pool ≡ Goes next (Ends last) → IsComplete sent ask course pool next
          complete_so next last e =
              let whole = from.begins.stands.whole in (
                whole,
                subst (λ (v : View). target v course.state ≡ Ok whole) from.same_view from.begins.stands.is_target,
                subst (λ (c : Course). HasOneMore pool next ask.target c.component c.base (header_of sent) whole) from.course_is
                    (subst (λ (v : View). HasOneMore pool next ask.target from.first.component from.first.base v.header whole) from.same_view
                    (feed_complete laws also start from.can ask began course.state from.first from.begins pool lawful new text piece stage unended there applied front next last e)),
              )

      -- the partial state of a receive that has begun is the first one, further on
      new_of : (flags : ℕ) (partial : Partial) (going : Going sent also start ask course pool text flags partial) → snapshot_named (snapshot_name ask.target going.beginning.first.component) pool ≡ None
      new_of flags partial going =
          let from = going.beginning in
          let left = covered_by laws also start from.can text going.front in
          let on = further laws also start from.can ask going.began course.state from.first from.begins (reading text).covered left.0 flags partial going.behind left.1 in
          let named : partial.component ≡ from.first.component = ap (λ (p : Partial). p.component) on.stays in
          sym (ap (λ (c : List ℕ). snapshot_named (snapshot_name ask.target c) pool) named) ∙ component_is_new ask pool partial lawful going.there

      -- the feed of a receive, by where it stands
      fed_progress : (stage : Stage) → IsOnCourse sent also start ask course pool text stage → MayBegin sent also start ask course pool (text ++ piece) stage
          → Progressed (kept_of (pool_of (fed_piece ask text piece stage pool)))
      fed_progress Waits on (inl none) =
          let fault = fault_of (reading (text ++ piece)).outcome in
          inl (start_untouched ask pool (pool_of (fed_piece ask text piece Waits pool)) (ap pool_of (nothing_covered laws.fronts ask text piece pool none) ∙ waiting_pool pool fault))
      fed_progress Waits on (inr planned) =
          let from = begun_well laws sent also start ask course pool lawful planned in
          progress_so pool from Waits refl tt (refl, (on_way pool text Waits on).1) from.begins.new
      fed_progress (Lives flags partial) on may =
          let going = on_way pool text (Lives flags partial) on in
          progress_so going.began going.beginning (Lives flags partial) refl going.there going.behind (new_of flags partial going)
      fed_progress (Ends partial) on may = absurd (on_way pool text (Ends partial) on)

      feeding_progress : (stage : Stage) → Progressed (kept_of (pool_of (fed_piece ask text piece stage pool))) → Progressed (kept_of (pool_of (feeding ask text piece stage pool)))
      feeding_progress stage progress = go (nat_lt stream_limit (length text + length piece))
        where
          go : (t : Bool) → Progressed (kept_of (pool_of (cond t (Stops (left_by stage pool) (refusals.Limit quantities.Stream stream_limit)) (fed_piece ask text piece stage pool))))
          go true = subst Progressed (sym (kept_left stage pool)) (inl (start_untouched ask pool pool refl))
          go false = progress

      fed_complete : (stage : Stage) (next : Pool) (last : Partial) → IsOnCourse sent also start ask course pool text stage → MayBegin sent also start ask course pool (text ++ piece) stage
          → fed_piece ask text piece stage pool ≡ Goes next (Ends last) → IsComplete sent ask course pool next
      fed_complete Waits next last on (inl none) e =
          absurd (let waits = still_waits pool next (fault_of (reading (text ++ piece)).outcome) (Ends last) (sym (nothing_covered laws.fronts ask text piece pool none) ∙ e) in cc)
      fed_complete Waits next last on (inr planned) e =
          let from = begun_well laws sent also start ask course pool lawful planned in
          complete_so pool from Waits refl tt (refl, (on_way pool text Waits on).1) from.begins.new next last e
      fed_complete (Lives flags partial) next last on may e =
          let going = on_way pool text (Lives flags partial) on in
          complete_so going.began going.beginning (Lives flags partial) refl going.there going.behind (new_of flags partial going) next last e
      fed_complete (Ends partial) next last on may e = absurd (on_way pool text (Ends partial) on)

      -- and where it then stands
      stays_on : (stage after : Stage) (next : Pool) → IsOnCourse sent also start ask course pool text stage → MayBegin sent also start ask course pool (text ++ piece) stage
          → feeding ask text piece stage pool ≡ Goes next after → is_done after ≡ false → IsOnCourse sent also start ask course next (text ++ piece) after
      stays_on stage (Ends last) next on may e unended = absurd cc
      stays_on Waits Waits next on (inl none) e unended = Waiting next (text ++ piece) front none
      stays_on Waits Waits next on (inr planned) e unended =
          Waiting next (text ++ piece) front
          (fed_applied laws.applied laws.fronts ask pool pool next text piece Waits Waits (refl, (on_way pool text Waits on).1) (within ask text piece Waits Waits pool next e)).1
      stays_on Waits (Lives flags partial) next on (inl none) e unended =
          absurd (let waits = still_waits pool next (fault_of (reading (text ++ piece)).outcome) (Lives flags partial)
          (sym (nothing_covered laws.fronts ask text piece pool none) ∙ within ask text piece Waits (Lives flags partial) pool next e) in cc)
      stays_on Waits (Lives flags partial) next on (inr planned) e unended = Begun pool next text piece flags partial lawful (on_way pool text Waits on).1 planned front e
      stays_on (Lives flags partial) Waits next on may e unended =
          absurd (begun_stays ask pool next text piece flags partial (on_way pool text (Lives flags partial) on).there (within ask text piece (Lives flags partial) Waits pool next e))
      stays_on (Lives flags partial) (Lives more further) next on may e unended = GoneOn pool next text piece flags more partial further on front e
      stays_on (Ends partial) after next on may e unended = absurd (on_way pool text (Ends partial) on)

  -- ---- the laws

  pub feeds_progress : FeedsAreProgress
  feeds_progress sent also start ask course pool text piece stage on lawful front may =
      feeding_progress sent also start ask course pool lawful text piece front stage (fed_progress sent also start ask course pool lawful text piece front stage on may)

  pub feeds_stay : FeedsStayOnCourse
  feeds_stay sent also start ask course pool next text piece stage after on lawful front may e unended = stays_on sent also start ask course pool lawful text piece front stage after next on may e unended

  pub feeds_complete : FeedsComplete
  feeds_complete sent also start ask course pool next text piece stage last on lawful front may e =
      fed_complete sent also start ask course pool lawful text piece front stage next last on may (within ask text piece stage (Ends last) pool next e)

  pub fit_complete : FitFeedsComplete
  fit_complete sent also start ask course pool next text piece stage last on lawful front may fit e =
      let end = feeds_complete sent also start ask course pool next text piece stage last on lawful front may e in
      subst (λ (s : State). HasOneMore pool next ask.target course.component course.base (header_of sent) s)
      (ok_parts _ _ (sym end.1 ∙ made laws sent None fit.sendable course.state fit.lawful fit.fit)) end.2

-- ---- the base of a fresh one

fresh_fit : (sent also : Sent) (start : Option Point) (ask : RecvAsk) (course : Course) (pool : Pool) → IsPool pool → IsPlannedIn sent ask pool also start course → start ≡ None → IsFit sent course.state
fresh_fit sent also start ask course pool lawful (Afresh component base can none matches begins) is = record {
  sendable = can;
  lawful = (fresh.began_in ask (header_of sent) pool component base lawful none begins).lawful;
  fit = matches component base begins;
}
fresh_fit sent also start ask course pool lawful (GoingOn other partial state underway rest) is = absurd cc

pub fresh_are_fit : FreshAreFit
fresh_are_fit sent also ask course pool lawful planned = fresh_fit sent also None ask course pool lawful planned refl
