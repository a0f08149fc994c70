-- What the image keeps of a receive that began in one pool and is fed into another.
use Rattle.std.proofs.Common.{◌≡◌, inl, inr, ℕ, Bool, true, false, List, [], ◌∷◌, ◌++◌, Option, None, refl, sym, ap, ◌∙◌, subst, append_assoc, append-nil}
use Rattle.zst_laws.specs.ResumedSends.{IsAtOrAfter}
use Rattle.zst_model.specs.declared.refusals.refusal.Refusal.{Refusal}
use Rattle.zst_model.specs.declared.sends.header.Point.{Point}
use Rattle.zst_model.specs.declared.states.item.Item.{Item}
use Rattle.zst_model.specs.pools.KeptPool.{kept_of}
use Rattle.zst_model.specs.pools.Pool.{IsPool, Partial, Pool, snapshot_named}
use Rattle.zst_model.specs.sends.CutReceives.{StandsFor}
use Rattle.zst_model.specs.sends.Headers.{Sent, header_of, sent_view}
use Rattle.zst_model.specs.states.AppliedItems.{apply_all}
use Rattle.zst_model.specs.states.State.{State}
use Rattle.zst_model.proofs.Results.{ok_parts}
use Rattle.zst_plan.specs.RecvPlan.{snapshot_name}
use Rattle.zst_plan.specs.declared.receive.RecvAsk.{RecvAsk}
use Rattle.zst_record.specs.Heads.{Covered}
use Rattle.zst_record.specs.Payload.{stated_point}
use Rattle.zst_stream.specs.Items.{items_of}
use Rattle.zst_stream.specs.Reading.{reading}
use Rattle.zst_stream.proofs.ItemStreams.{say_append}
use Rattle.zst_send.specs.Sends.{begun, begun_text}
use Rattle.zst_recv.specs.Answers.{is_done}
use Rattle.zst_recv.specs.Feeds.{fault_of, fed_piece, new_records}
use Rattle.zst_recv.specs.ReceiveSteps.{Stage, Waits, Lives, Ends, Fed, Goes, Stops, at_stage, batch_of, pool_of}
use Rattle.zst_replication.specs.Grounds.{Grounds}
use Rattle.zst_replication.specs.Outcomes.{HasOneMore, Progress, course_on}
use Rattle.zst_replication.specs.Replicas.{IsSendable}
use Rattle.zst_replication.specs.Resumption.{AppliedBehind}
use Rattle.zst_replication.proofs.AppliedRecords.{Applied, AppliedFront, BehindEnd, batch_somewhere}
use Rattle.zst_replication.proofs.FeedSequences.{kept_left}
use Rattle.zst_replication.proofs.FeedSteps.{GoesOn, StopsBy, goes_on, new_are, stops_by}
use Rattle.zst_replication.proofs.FinishedReceives.{one_more, one_more_kept}
use Rattle.zst_replication.proofs.ReplicaLemmas.{BeginsWith, ContinuesFirst, covered_of, further, is_view, rest, streamed}
use Rattle.zst_replication.proofs.RunningPools.{Asked, Finished, IsAsked, AddsPartial, Runs}
use Rattle.zst_replication.proofs.StoppedReceives.{living_partial, start_untouched}
use Rattle.zst_replication.proofs.StreamRecords.{all_said}
use Rattle.zst_sessions.specs.Lawfulness.{IsStanding}
use Rattle.zst_interleaving.specs.Courses.{IsFrontOf}
use Rattle.zst_interleaving.proofs.OneFeed.{CommitsOnce, begins_so, commits_once, fed_applied, unkept_nothing, worked_here}

-- what a text covers that is a front of what was sent is a front of what that covers
pub covered_by : (laws : Grounds) (sent : Sent) (at : Option Point) → IsSendable sent at → (text : List ℕ) → IsFrontOf text sent at
    → (left : List Covered) × ((reading text).covered ++ left ≡ (reading (begun_text sent at)).covered)
covered_by laws sent at can text of =
    let same : text ++ [] ≡ text = append-nil text in
    subst (λ (t : List ℕ). (left : List Covered) × ((reading t).covered ++ left ≡ (reading (begun_text sent at)).covered)) same
    (covered_of laws sent at can (text ∷ []) (of.0, of.1, ap (λ (t : List ℕ). t ++ of.0) same ∙ of.2))

module _ (laws : Grounds) (sent : Sent) (at : Option Point) (can : IsSendable sent at) (ask : RecvAsk) (began : Pool) (state : State) (first : Partial) (begins : BeginsWith sent at ask began state first)
    (pool : Pool) (lawful : IsPool pool) (new : snapshot_named (snapshot_name ask.target first.component) pool ≡ None)
  where
    abbrev whole_text : List Covered
    whole_text = (reading (begun_text sent at)).covered

    abbrev pub Progressed : Pool → Type 0
    Progressed now = Progress ask (sent_view sent) (course_on first state) (kept_of pool) now

    -- ---- under way

    living : (front left : List Covered) (flags : ℕ) (partial : Partial) (next : Pool) → IsAsked ask pool partial → AddsPartial ask pool next partial → AppliedBehind ask began front flags partial
        → front ++ left ≡ whole_text → Progressed (kept_of next)
    living front left flags partial next asked under behind split = go partial.keep refl
      where
        on : ContinuesFirst laws sent at can ask began state first begins front partial
        on = further laws sent at can ask began state first begins front left flags partial behind split

        said : items_of (begun sent at).flags front ++ items_of (begun sent at).flags left ≡ rest laws sent at can
        said = sym (say_append (begun sent at).flags front left) ∙ ap (items_of (begun sent at).flags) split ∙ (streamed laws sent at can).said

        go : (t : Bool) → partial.keep ≡ t → Progressed (kept_of next)
        go false is = inl (unkept_nothing ask pool next partial lawful asked under is)
        go true is = inr (inl (record {
          partial = partial;
          has = living_partial ask pool next partial asked under is;
          kept = is;
          header = ap (λ (p : Partial). p.header) on.stays ∙ begins.header;
          named = ap (λ (p : Partial). p.component) on.stays;
          based = ap (λ (p : Partial). p.base) on.stays;
          later =
              subst (λ (p : Point). IsAtOrAfter p partial.point) (sym begins.point)
              (subst (λ (p : Point). IsAtOrAfter (stated_point at) p) (sym on.reached)
              (laws.rises (sent_view sent) (stated_point at) (items_of (begun sent at).flags front) (items_of (begun sent at).flags left) (is_view laws sent at can) said));
          stands =
              subst (λ (p : Point). StandsFor (sent_view sent) state p partial.objects.state) (sym on.reached)
              (laws.cuts (sent_view sent) state (stated_point at) first.objects.state (items_of (begun sent at).flags front) (items_of (begun sent at).flags left) partial.objects.state
              (is_view laws sent at can) begins.stands said on.objects);
        }))

    -- ---- at its end

    ended : (front left : List Covered) (partial : Partial) (next : Pool) → IsAsked ask pool partial → Finished ask pool next partial → BehindEnd ask began front partial → front ++ left ≡ whole_text
        → HasOneMore pool next ask.target first.component first.base (header_of sent) begins.stands.whole
    ended front left partial next asked finished end split =
        let after : end.front ++ (end.last ∷ (end.more ++ left)) ≡ whole_text =
        sym (append_assoc end.front (end.last ∷ end.more) left) ∙ sym (ap (λ (cs : List Covered). cs ++ left) end.records_are) ∙ split in
        let behind = end.behind in
        let on = further laws sent at can ask began state first begins end.front (end.last ∷ (end.more ++ left)) end.flags partial behind after in
        let all : items_of (begun sent at).flags end.front ≡ rest laws sent at can =
        ap (items_of (begun sent at).flags) behind.records_are
        ∙ all_said (begun sent at) (rest laws sent at can) whole_text (streamed laws sent at can) behind.first behind.rest (end.last ∷ (end.more ++ left))
        (sym (ap (λ (cs : List Covered). cs ++ (end.last ∷ (end.more ++ left))) behind.records_are) ∙ after) end.last (end.more ++ left) refl end.ends in
        let is : partial.objects.state ≡ begins.stands.whole =
        ok_parts _ _
        (sym on.objects ∙ ap (λ (is : List Item). apply_all is first.objects.state) all
        ∙ laws.resumes (sent_view sent) state (stated_point at) first.objects.state (is_view laws sent at can) begins.stands ∙ begins.stands.is_target) in
        let named : partial.component ≡ first.component = ap (λ (p : Partial). p.component) on.stays in
        let based : partial.base ≡ first.base = ap (λ (p : Partial). p.base) on.stays in
        let more = one_more ask (header_of sent) pool next partial asked.target (ap (λ (p : Partial). p.header) on.stays ∙ begins.header)
        (ap (λ (c : List ℕ). snapshot_named (snapshot_name ask.target c) pool) named ∙ new) finished in
        subst (λ (c : List ℕ). HasOneMore pool next ask.target c first.base (header_of sent) begins.stands.whole) named
        (subst (λ (b : Option (List ℕ)). HasOneMore pool next ask.target partial.component b (header_of sent) begins.stands.whole) based
        (subst (λ (s : State). HasOneMore pool next ask.target partial.component partial.base (header_of sent) s) is more))

    -- ---- one commit

    moment : (front left : List Covered) (stage : Stage) (next : Pool) → Asked ask pool stage → Runs ask pool stage next → Applied ask began pool stage front → front ++ left ≡ whole_text → Progressed (kept_of next)
    moment front left Waits next asked runs applied split = inl (start_untouched ask pool next runs)
    moment front left (Lives flags partial) next asked runs behind split = living front left flags partial next asked runs behind split
    moment front left (Ends partial) next asked runs end split =
        inr (inr (record {
          whole = begins.stands.whole;
          is_target = begins.stands.is_target;
          more = one_more_kept pool next ask.target first.component first.base (header_of sent) begins.stands.whole (ended front left partial next asked runs end split);
        }))

    -- ---- one feed

    module _ (text piece : List ℕ) (stage : Stage) (unended : is_done stage ≡ false) (there : IsStanding ask stage pool) (applied : Applied ask began pool stage (reading text).covered)
        (of : IsFrontOf (text ++ piece) sent at)
      where
        abbrev records : List Covered
        records = new_records text piece

        left : (left : List Covered) × ((reading (text ++ piece)).covered ++ left ≡ whole_text)
        left = covered_by laws sent at can (text ++ piece) of

        goes_progress : (next : Pool) (after : Stage) → fed_piece ask text piece stage pool ≡ Goes next after → Progressed (kept_of next)
        goes_progress next after e = go (commits_once ask pool stage records next unended there on.put_is)
          where
            on : GoesOn ask records (fault_of (reading (text ++ piece)).outcome) stage after pool next
            on = goes_on ask records (fault_of (reading (text ++ piece)).outcome) stage after pool next e

            go : CommitsOnce ask pool stage (batch_of ask pool records (at_stage stage)).batch next → Progressed (kept_of next)
            go (inl same) = inl (start_untouched ask pool next same.0)
            go (inr runs) =
                moment (reading (text ++ piece)).covered left.0 after next
                (subst (λ (s : Stage). Asked ask pool s) on.after_is (worked_here ask pool stage records unended there).asked)
                (subst (λ (s : Stage). Runs ask pool s next) on.after_is runs)
                (fed_applied laws.applied laws.fronts ask began pool next text piece stage after applied e) left.1

        stops_progress : (next : Pool) (refusal : Refusal) → fed_piece ask text piece stage pool ≡ Stops next refusal → Progressed (kept_of next)
        stops_progress next refusal e = go (stops_by ask records (fault_of (reading (text ++ piece)).outcome) stage pool next refusal e)
          where
            some : AppliedFront laws.applied ask began pool ((reading text).covered ++ records) (batch_of ask pool records (at_stage stage)).batch.stage
            some = batch_somewhere laws.applied ask began pool (reading text).covered records (at_stage stage) (begins_so laws.fronts text piece) applied

            split : some.front ++ (some.left ++ left.0) ≡ whole_text
            split = sym (append_assoc some.front some.left left.0) ∙ ap (λ (cs : List Covered). cs ++ left.0) (some.split ∙ sym (new_are laws.fronts text piece)) ∙ left.1

            taken : CommitsOnce ask pool stage (batch_of ask pool records (at_stage stage)).batch next → Progressed (kept_of next)
            taken (inl same) = inl (start_untouched ask pool next same.0)
            taken (inr runs) =
                moment some.front (some.left ++ left.0) (batch_of ask pool records (at_stage stage)).batch.stage next (worked_here ask pool stage records unended there).asked runs some.applied split

            go : StopsBy stage pool (batch_of ask pool records (at_stage stage)).batch next → Progressed (kept_of next)
            go (inl same) = subst Progressed (sym (ap kept_of same ∙ kept_left stage pool)) (inl (start_untouched ask pool pool refl))
            go (inr kept) = taken (commits_once ask pool stage records next unended there kept.1)

        pub feed_progress : Progressed (kept_of (pool_of (fed_piece ask text piece stage pool)))
        feed_progress = go (fed_piece ask text piece stage pool) refl
          where
            go : (f : Fed) → fed_piece ask text piece stage pool ≡ f → Progressed (kept_of (pool_of f))
            go (Goes next after) e = goes_progress next after e
            go (Stops next refusal) e = stops_progress next refusal e

        pub feed_complete : (next : Pool) (last : Partial) → fed_piece ask text piece stage pool ≡ Goes next (Ends last)
            → HasOneMore pool next ask.target first.component first.base (header_of sent) begins.stands.whole
        feed_complete next last e = go (commits_once ask pool stage records next unended there on.put_is)
          where
            on : GoesOn ask records (fault_of (reading (text ++ piece)).outcome) stage (Ends last) pool next
            on = goes_on ask records (fault_of (reading (text ++ piece)).outcome) stage (Ends last) pool next e

            go : CommitsOnce ask pool stage (batch_of ask pool records (at_stage stage)).batch next → HasOneMore pool next ask.target first.component first.base (header_of sent) begins.stands.whole
            go (inl same) = absurd (let none : is_done (Ends last) ≡ false = ap is_done (sym on.after_is ∙ same.1) ∙ unended in cc)
            go (inr runs) =
                ended (reading (text ++ piece)).covered left.0 last next
                (subst (λ (s : Stage). Asked ask pool s) on.after_is (worked_here ask pool stage records unended there).asked)
                (subst (λ (s : Stage). Runs ask pool s next) on.after_is runs)
                (fed_applied laws.applied laws.fronts ask began pool next text piece stage (Ends last) applied e) left.1
