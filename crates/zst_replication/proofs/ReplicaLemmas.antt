-- A send that is received to its end, and every stop on its way, from its beginning or from the point of a partial state.
use Rattle.std.proofs.Common.{◌≡◌, ◌⊎◌, inl, inr, ℕ, Bool, true, false, List, [], ◌∷◌, ◌++◌, Option, None, Ok, refl, sym, ap, ◌∙◌, subst, append_assoc, append-nil}
use Rattle.std.specs.List.{concat}
use Rattle.zst_laws.specs.ResumedSends.{IsAtOrAfter}
use Rattle.zst_model.specs.declared.sends.header.Header.{Header}
use Rattle.zst_model.specs.declared.sends.header.Point.{Point}
use Rattle.zst_model.specs.declared.states.item.Item.{Item}
use Rattle.zst_model.specs.pools.KeptPool.{kept_of}
use Rattle.zst_model.specs.pools.Pool.{Pool, Partial, partial_of, snapshot_named}
use Rattle.zst_model.specs.sends.Headers.{Sent, choice_of, header_of, sent_view}
use Rattle.zst_model.specs.sends.Items.{items, single_items}
use Rattle.zst_model.specs.sends.Points.{point_of}
use Rattle.zst_model.specs.sends.CutReceives.{StandsFor}
use Rattle.zst_model.specs.sends.Target.{BaseOk, target}
use Rattle.zst_model.specs.sends.View.{IsView}
use Rattle.zst_model.specs.states.AppliedItems.{apply_all}
use Rattle.zst_model.specs.states.State.{IsState, State}
use Rattle.zst_model.proofs.Results.{ok_parts}
use Rattle.zst_plan.specs.RecvPlan.{RecvPlan, recv_plan, snapshot_name}
use Rattle.zst_plan.specs.declared.receive.RecvAsk.{RecvAsk}
use Rattle.zst_record.specs.Heads.{Covered}
use Rattle.zst_record.specs.Payload.{stated_point}
use Rattle.zst_stream.specs.Items.{items_of}
use Rattle.zst_stream.specs.Reading.{Outcome, complete, reading, waiting}
use Rattle.zst_stream.proofs.ItemStreams.{say_append}
use Rattle.zst_send.specs.Sends.{begun, begun_text, begun_view}
use Rattle.zst_recv.specs.Feeds.{receives}
use Rattle.zst_recv.specs.ReceiveSteps.{Stage, Waits, Lives, Ends, Fed, Goes, Stops, opened, pool_of}
use Rattle.zst_replication.specs.Grounds.{Grounds}
use Rattle.zst_replication.specs.KeptReceives.{keep_by}
use Rattle.zst_replication.specs.Outcomes.{HasOneMore, Progress, course_on}
use Rattle.zst_replication.specs.Replicas.{AreOfStream, IsSendable, sent_state}
use Rattle.zst_replication.specs.Resumption.{AppliedBehind}
use Rattle.zst_replication.proofs.AppliedRecords.{Applied, BehindEnd}
use Rattle.zst_replication.proofs.FinishedReceives.{one_more, one_more_kept}
use Rattle.zst_replication.proofs.FeedSequences.{Stands, Way, receives_way}
use Rattle.zst_replication.proofs.StoppedReceives.{living_nothing, living_partial, start_untouched}
use Rattle.zst_replication.proofs.StreamRecords.{Stream, all_said, begin_is, stream_of}

-- the items of a send are the same whatever BEGIN says of a token
same_items : (sent : Sent) (at : Option Point) (point : Point) → items (begun_view sent at) point ≡ items (sent_view sent) point
unfolding single_items
same_items sent at point = refl

-- a receive of this stream begins with this partial state, which is on its way from this state, and with no other
pub record BeginsWith (sent : Sent) (at : Option Point) (ask : RecvAsk) (start : Pool) (state : State) (first : Partial) : Type 0 where
  pub plan : RecvPlan
  pub only : (other : RecvPlan) → recv_plan ask (begun sent at) start ≡ Ok other → other ≡ plan
  pub opens : (opened ask (begun sent at) plan).stage ≡ Lives (begun sent at).flags first
  pub header : first.header ≡ header_of sent
  pub point : first.point ≡ stated_point at
  pub stands : StandsFor (sent_view sent) state (stated_point at) first.objects.state
  pub new : snapshot_named (snapshot_name ask.target first.component) start ≡ None
  pub kept : keep_by ask start ≡ false → partial_of ask.target start ≡ None

module _ (laws : Grounds) (sent : Sent) (at : Option Point) (can : IsSendable sent at) where
  -- ---- what is sent

  pub is_view : IsView (sent_view sent)
  is_view = laws.views (header_of sent) sent.snapshot.objects (choice_of sent) can.stated.lawful can.redacted

  -- over a base that is fit for it, the send makes its snapshot's state, redacted as it was asked
  pub made : (state : State) → IsState state → BaseOk state sent.snapshot.objects (choice_of sent) → target (sent_view sent) state ≡ Ok (sent_state sent)
  made state lawful fit = laws.exact state (header_of sent) sent.snapshot.objects (choice_of sent) lawful can.stated.lawful can.redacted fit

  -- ---- its stream

  abbrev pub text : List ℕ
  text = begun_text sent at

  abbrev pub rest : List Item
  rest = items (sent_view sent) (stated_point at)

  pub streamed : Stream (begun sent at) rest (reading text).covered
  streamed =
      subst (λ (is : List Item). Stream (begun sent at) is (reading text).covered) (same_items sent at (stated_point at))
      (stream_of laws.streams laws.reads laws.images laws.covered (begun sent at) sent.snapshot.objects (choice_of sent) (stated_point at) can.stated)

  -- what stands behind the stream isn't read
  behind_none : (behind : List ℕ) → (reading (text ++ behind)).covered ≡ (reading text).covered
  behind_none behind =
      let front = laws.fronts text behind in
      front.covered ∙ ap (λ (cs : List Covered). (reading text).covered ++ cs) (go front.outcome) ∙ append-nil (reading text).covered
    where
      complete_is : (reading text).outcome ≡ complete
      complete_is = (laws.reads (begun sent at) sent.snapshot.objects (choice_of sent) (stated_point at) can.stated).0

      go : {others : List Covered} {o : Outcome} → ((reading text).outcome ≡ waiting) ⊎ (((reading text).outcome ≡ o) × (others ≡ [])) → others ≡ []
      go (inl waits) = absurd (let both = sym waits ∙ complete_is in cc)
      go (inr whole) = whole.1

  -- what pieces of it cover is a front of what it covers
  pub covered_of : (pieces : List (List ℕ)) → AreOfStream pieces sent at → (left : List Covered) × ((reading (concat pieces)).covered ++ left ≡ (reading text).covered)
  covered_of pieces of =
      let front = laws.fronts (concat pieces) of.0 in
      (front.others, sym front.covered ∙ ap (λ (t : List ℕ). (reading t).covered) of.2 ∙ behind_none of.1)

  module _ (ask : RecvAsk) (start : Pool) where
    -- the header of what was begun is the stream's
    begun_by : (front left : List Covered) (flags : ℕ) (partial : Partial) (behind : AppliedBehind ask start front flags partial) → front ++ left ≡ (reading text).covered → behind.is.header ≡ begun sent at
    begun_by front left flags partial behind split =
        begin_is (begun sent at) rest (reading text).covered streamed behind.first behind.rest left (sym (ap (λ (cs : List Covered). cs ++ left) behind.records_are) ∙ split) behind.is.header behind.len behind.head_is

    -- so a receive that has come to its end was planned
    pub ended_plan : (after : Pool) (partial : Partial) (pieces : List (List ℕ)) → AreOfStream pieces sent at → receives ask start pieces ≡ Goes after (Ends partial)
        → (plan : RecvPlan) × (recv_plan ask (begun sent at) start ≡ Ok plan)
    ended_plan after partial pieces of e =
        let way = subst (λ (f : Fed). Way laws.applied ask start (reading (concat pieces)).covered f) e (receives_way laws.applied ask start laws.fronts pieces) in
        let ended = way.1 in
        let of = covered_of pieces of in
        let header = begun_by ended.front ((ended.last ∷ ended.more) ++ of.0) ended.flags partial ended.behind (ended_split (reading (concat pieces)).covered of.0 partial ended of.1) in
        (ended.behind.is.plan, subst (λ (h : Header). recv_plan ask h start ≡ Ok ended.behind.is.plan) header ended.behind.is.planned)
      where
        ended_split : (records left : List Covered) (partial : Partial) (ended : BehindEnd ask start records partial) → records ++ left ≡ (reading text).covered
            → ended.front ++ ((ended.last ∷ ended.more) ++ left) ≡ (reading text).covered
        ended_split records left partial ended split =
            sym (append_assoc ended.front (ended.last ∷ ended.more) left) ∙ sym (ap (λ (cs : List Covered). cs ++ left) ended.records_are) ∙ split

    module _ (state : State) (first : Partial) (begins : BeginsWith sent at ask start state first) where
      -- it is the first partial state, further on by what these records say
      pub record ContinuesFirst (front : List Covered) (partial : Partial) : Type 0 where
        pub objects : apply_all (items_of (begun sent at).flags front) first.objects.state ≡ Ok partial.objects.state
        pub reached : partial.point ≡ point_of (stated_point at) (items_of (begun sent at).flags front)
        pub stays : partial ≡ record first { objects = partial.objects; point = partial.point }

      lives_parts : (flags other : ℕ) (a b : Partial) → Lives flags a ≡ Lives other b → (flags ≡ other) × (a ≡ b)
      lives_parts flags other a b e = (cc, cc)

      same_start : (front left : List Covered) (flags : ℕ) (partial : Partial) (behind : AppliedBehind ask start front flags partial) → front ++ left ≡ (reading text).covered
          → (flags ≡ (begun sent at).flags) × (behind.is.begun ≡ first)
      same_start front left flags partial behind split =
          let is = behind.is in
          let header = begun_by front left flags partial behind split in
          let plan : is.plan ≡ begins.plan = begins.only is.plan (subst (λ (h : Header). recv_plan ask h start ≡ Ok is.plan) header is.planned) in
          let opens = subst (λ (p : RecvPlan). (opened ask (begun sent at) p).stage ≡ Lives flags is.begun) plan (subst (λ (h : Header). (opened ask h is.plan).stage ≡ Lives flags is.begun) header is.begins) in
          lives_parts flags (begun sent at).flags is.begun first (sym opens ∙ begins.opens)

      pub flags_of : (front left : List Covered) (flags : ℕ) (partial : Partial) → AppliedBehind ask start front flags partial → front ++ left ≡ (reading text).covered → flags ≡ (begun sent at).flags
      flags_of front left flags partial behind split = (same_start front left flags partial behind split).0

      pub further : (front left : List Covered) (flags : ℕ) (partial : Partial) → AppliedBehind ask start front flags partial → front ++ left ≡ (reading text).covered → ContinuesFirst front partial
      further front left flags partial behind split =
          let is = behind.is in
          let parts = same_start front left flags partial behind split in
          let said : items_of (begun sent at).flags front ≡ items_of flags front = sym (ap (λ (f : ℕ). items_of f front) parts.0) in
          record {
            objects =
                ap (λ (is : List Item). apply_all is first.objects.state) said
                ∙ sym (ap (λ (p : Partial). apply_all (items_of flags front) p.objects.state) parts.1) ∙ is.objects;
            reached =
                is.reached ∙ ap (λ (p : Partial). point_of p.point (items_of flags front)) parts.1 ∙ ap (λ (p : Point). point_of p (items_of flags front)) begins.point
                ∙ sym (ap (point_of (stated_point at)) said);
            stays = is.stays ∙ ap (λ (p : Partial). record p { objects = partial.objects; point = partial.point }) parts.1;
          }

      -- ---- at its end

      -- one snapshot more, which is what the view makes of the base
      pub record Ended (pool : Pool) (partial : Partial) : Type 0 where
        pub named : partial.component ≡ first.component
        pub more : HasOneMore start pool ask.target first.component first.base (header_of sent) begins.stands.whole

      ended : (front left : List Covered) (partial : Partial) (pool : Pool) → Stands ask start (Ends partial) pool → BehindEnd ask start front partial → front ++ left ≡ (reading text).covered → Ended pool partial
      ended front left partial pool stands end split =
          let after : end.front ++ (end.last ∷ (end.more ++ left)) ≡ (reading text).covered =
          sym (append_assoc end.front (end.last ∷ end.more) left) ∙ sym (ap (λ (cs : List Covered). cs ++ left) end.records_are) ∙ split in
          let behind = end.behind in
          let on = further end.front (end.last ∷ (end.more ++ left)) end.flags partial behind after in
          let all : items_of (begun sent at).flags end.front ≡ rest =
          ap (items_of (begun sent at).flags) behind.records_are
          ∙ all_said (begun sent at) rest (reading text).covered streamed behind.first behind.rest (end.last ∷ (end.more ++ left))
          (sym (ap (λ (cs : List Covered). cs ++ (end.last ∷ (end.more ++ left))) behind.records_are) ∙ after) end.last (end.more ++ left) refl end.ends in
          let is : partial.objects.state ≡ begins.stands.whole =
          ok_parts _ _
          (sym on.objects ∙ ap (λ (is : List Item). apply_all is first.objects.state) all
          ∙ laws.resumes (sent_view sent) state (stated_point at) first.objects.state is_view begins.stands ∙ begins.stands.is_target) in
          let named : partial.component ≡ first.component = ap (λ (p : Partial). p.component) on.stays in
          let based : partial.base ≡ first.base = ap (λ (p : Partial). p.base) on.stays in
          let more = one_more ask (header_of sent) start pool partial stands.asked.target (ap (λ (p : Partial). p.header) on.stays ∙ begins.header)
          (ap (λ (c : List ℕ). snapshot_named (snapshot_name ask.target c) start) named ∙ begins.new) stands.runs in
          record {
            named = named;
            more =
                subst (λ (c : List ℕ). HasOneMore start pool ask.target c first.base (header_of sent) begins.stands.whole) named
                (subst (λ (b : Option (List ℕ)). HasOneMore start pool ask.target partial.component b (header_of sent) begins.stands.whole) based
                (subst (λ (s : State). HasOneMore start pool ask.target partial.component partial.base (header_of sent) s) is more));
          }

      pub received : (after : Pool) (partial : Partial) (pieces : List (List ℕ)) → AreOfStream pieces sent at → receives ask start pieces ≡ Goes after (Ends partial) → Ended after partial
      received after partial pieces of e =
          let way = subst (λ (f : Fed). Way laws.applied ask start (reading (concat pieces)).covered f) e (receives_way laws.applied ask start laws.fronts pieces) in
          let left = covered_of pieces of in
          ended (reading (concat pieces)).covered left.0 partial after way.0 way.1 left.1

      -- ---- stops

      abbrev Progressed : Pool → Type 0
      Progressed pool = Progress ask (sent_view sent) (course_on first state) (kept_of start) pool

      living : (front left : List Covered) (flags : ℕ) (partial : Partial) (pool : Pool) → Stands ask start (Lives flags partial) pool → AppliedBehind ask start front flags partial
          → front ++ left ≡ (reading text).covered → Progressed (kept_of pool)
      living front left flags partial pool stands behind split = go partial.keep refl
        where
          on : ContinuesFirst front partial
          on = further front left flags partial behind split

          said : items_of (begun sent at).flags front ++ items_of (begun sent at).flags left ≡ rest
          said = sym (say_append (begun sent at).flags front left) ∙ ap (items_of (begun sent at).flags) split ∙ streamed.said

          go : (t : Bool) → partial.keep ≡ t → Progressed (kept_of pool)
          go false is = inl (living_nothing ask start pool partial stands.asked stands.runs (begins.kept (sym stands.asked.keep ∙ is)) is)
          go true is = inr (inl (record {
            partial = partial;
            has = living_partial ask start pool partial stands.asked stands.runs is;
            kept = is;
            header = ap (λ (p : Partial). p.header) on.stays ∙ begins.header;
            named = ap (λ (p : Partial). p.component) on.stays;
            based = ap (λ (p : Partial). p.base) on.stays;
            later =
                subst (λ (p : Point). IsAtOrAfter p partial.point) (sym begins.point)
                (subst (λ (p : Point). IsAtOrAfter (stated_point at) p) (sym on.reached)
                (laws.rises (sent_view sent) (stated_point at) (items_of (begun sent at).flags front) (items_of (begun sent at).flags left) is_view said));
            stands =
                subst (λ (p : Point). StandsFor (sent_view sent) state p partial.objects.state) (sym on.reached)
                (laws.cuts (sent_view sent) state (stated_point at) first.objects.state (items_of (begun sent at).flags front) (items_of (begun sent at).flags left) partial.objects.state is_view begins.stands said on.objects);
          }))

      on_way : (front left : List Covered) (stage : Stage) (pool : Pool) → Stands ask start stage pool → Applied ask start pool stage front → front ++ left ≡ (reading text).covered → Progressed (kept_of pool)
      on_way front left Waits pool stands applied split = inl (start_untouched ask start pool stands.runs)
      on_way front left (Lives flags partial) pool stands behind split = living front left flags partial pool stands behind split
      on_way front left (Ends partial) pool stands end split =
          inr (inr (record {
            whole = begins.stands.whole;
            is_target = begins.stands.is_target;
            more = one_more_kept start pool ask.target first.component first.base (header_of sent) begins.stands.whole (ended front left partial pool stands end split).more;
          }))

      ways : (records left : List Covered) (f : Fed) → Way laws.applied ask start records f → records ++ left ≡ (reading text).covered → Progressed (kept_of (pool_of f))
      ways records left (Goes next stage) way split = on_way records left stage next way.0 way.1 split
      ways records left (Stops next refusal) way split =
          subst Progressed (sym way.keeps)
          (on_way way.front (way.left ++ left) way.stage way.standing way.stands way.applied
          (sym (append_assoc way.front way.left left) ∙ ap (λ (cs : List Covered). cs ++ left) way.split ∙ split))

      pub progressed : (pieces : List (List ℕ)) → AreOfStream pieces sent at → Progressed (kept_of (pool_of (receives ask start pieces)))
      progressed pieces of =
          let left = covered_of pieces of in
          ways (reading (concat pieces)).covered left.0 (receives ask start pieces) (receives_way laws.applied ask start laws.fronts pieces) left.1
