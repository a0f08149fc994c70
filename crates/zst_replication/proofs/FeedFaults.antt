-- What a refused piece leaves of a receive.
use Rattle.std.proofs.Common.{◌≡◌, ◌⊎◌, inl, inr, ℕ, ◌+◌, Bool, true, false, not, List, [], ◌∷◌, ◌++◌, Option, Some, None, Result, Ok, Err, refl, sym, ap, ◌∙◌, subst, cond, ◌&&◌, append_assoc, arith}
use Rattle.std.specs.List.{concat}
use Rattle.std.specs.Option.{option_map_or}
use Rattle.std.specs.Prelude.{bytes_eq, filter}
use Rattle.std.proofs.lemmas.Option.{same_Some}
use Rattle.zst_laws.specs.ReceivedRecords.{ReceivedIsApplied}
use Rattle.zst_model.proofs.Booleans.{right_fails}
use Rattle.zst_model.proofs.OrderLaws.{bytes_same}
use Rattle.zst_model.specs.declared.refusals.plan_fault.PlanFault.{PlanFault}
use Rattle.zst_model.specs.declared.refusals.refusal.Refusal.{Refusal}
use Rattle.zst_model.specs.declared.refusals.stream_fault.StreamFault.{StreamFault}
use Rattle.zst_model.specs.declared.sends.header.Header.{Header}
use Rattle.zst_model.specs.pools.Pool.{Pool, Partial, inserted, partial_of}
use Rattle.zst_model.specs.refusals.Refusal.{refusal_of}
use Rattle.zst_model.specs.states.AppliedItems.{◌>>=◌}
use Rattle.zst_plan.specs.RecvPlan.{RecvPlan, recv_plan}
use Rattle.zst_plan.specs.declared.receive.RecvAsk.{RecvAsk}
use Rattle.zst_pool.specs.Partials.{partials_of_others, without_unkept}
use Rattle.zst_record.specs.declared.head.Head.{Head}
use Rattle.zst_record.specs.declared.head.Head.TheVariants as heads
use Rattle.zst_record.specs.Heads.{Covered}
use Rattle.zst_recv.proofs.RecordOrder.{EndsBy, ends_last}
use Rattle.zst_recv.specs.Answers.{is_done}
use Rattle.zst_recv.specs.Feeds.{fault_of, new_records}
use Rattle.zst_recv.specs.ReceiveSteps.{Stage, Waits, Lives, Ends, Fed, Batch, EndedBatch, at_stage, batch_of, began, fed, first_fault, is_kept, keeps_front, left_by, of_plan, opened, put, taken_at}
use Rattle.zst_stream.specs.Laws.{FrontsAgree}
use Rattle.zst_stream.specs.Reading.{Outcome, complete, faulty, reading}
use Rattle.zst_replication.specs.FeedFaults.{EndsAtFault, FaultsKeepFront, IsOfRecords, IsPlanned, IsRefused, KeepsFront, OthersLeaveAll, UnkeptLeaveNothing, UnplannedLeaveAll}
use Rattle.zst_replication.specs.KeptReceives.{keep_by}
use Rattle.zst_replication.specs.Outcomes.{HasNothing}
use Rattle.zst_replication.specs.Resumption.{AppliedBehind}
use Rattle.zst_replication.proofs.AppliedRecords.{Applied, BehindEnd}
use Rattle.zst_replication.proofs.FeedSequences.{Stands, Way, feed_worked, put_stands, receives_way}
use Rattle.zst_replication.proofs.FeedSteps.{new_are}
use Rattle.zst_replication.proofs.FirstRecords.{FirstIsBegin, first_is_begin}
use Rattle.zst_replication.proofs.RefusedFeeds.{Stopped, TakenFront, WhyLeft, end_completes, ends_at, front_of, front_stays, put_once, put_refused, receives_last, stopped_so, stream_fault, taken_front, waits_put}
use Rattle.zst_replication.proofs.Rows.{filter_inserted, others_all}
use Rattle.zst_replication.proofs.RunningPools.{AddsPartial, Asked, IsAsked, Worked, row_before}
use Rattle.zst_replication.proofs.StoppedReceives.{living_partial, untouched}

-- ---- partial states that are dropped

-- each of these passes a test
abbrev Pass : (Partial → Bool) → List Partial → Type 0
Pass test [] = Unit {0}
Pass test (p ∷ rest) = (test p ≡ true) × Pass test rest

all_pass : (test : Partial → Bool) (ps : List Partial) → Pass test ps → filter test ps ≡ ps
all_pass test [] pass = refl
all_pass test (p ∷ rest) pass = ap (λ (t : Bool). cond t (p ∷ filter test rest) (filter test rest)) pass.0 ∙ ap (λ (ps : List Partial). p ∷ ps) (all_pass test rest pass.1)

pass_inserted : (test : Partial → Bool) (row : Partial) (ps : List Partial) → test row ≡ true → Pass test ps → Pass test (inserted row_before row ps)
unfolding inserted
pass_inserted test row [] own pass = (own, tt)
pass_inserted test row (p ∷ rest) own pass = go (row_before row p) (pass_inserted test row rest own pass.1)
  where
    go : (t : Bool) → Pass test (inserted row_before row rest) → Pass test (cond t (row ∷ p ∷ rest) (p ∷ inserted row_before row rest))
    go true on = (own, pass)
    go false on = (pass.0, on)

-- whether a partial state stays where a session of this target ends
abbrev stays : List ℕ → Partial → Bool
stays target partial = not (bytes_eq partial.target target && not partial.keep)

others_pass : (target : List ℕ) (ps : List Partial) → Pass (stays target) (filter (λ p. not (bytes_eq p.target target)) ps)
others_pass target [] = tt
others_pass target (p ∷ rest) = go (bytes_eq p.target target) refl (others_pass target rest)
  where
    go : (t : Bool) → bytes_eq p.target target ≡ t → Pass (stays target) (filter (λ p. not (bytes_eq p.target target)) rest)
        → Pass (stays target) (cond (not t) (p ∷ filter (λ p. not (bytes_eq p.target target)) rest) (filter (λ p. not (bytes_eq p.target target)) rest))
    go true is on = on
    go false is on = (ap (λ (b : Bool). not (b && not p.keep)) is, on)

module _ (ask : RecvAsk) (start pool : Pool) (partial : Partial) (asked : IsAsked ask start partial) (under : AddsPartial ask start pool partial) where
  abbrev others : List Partial
  others = partials_of_others ask.target start

  others_stay : Pass (stays partial.target) others
  others_stay = subst (λ (t : List ℕ). Pass (stays t) others) (sym asked.target) (others_pass ask.target start.partials)

  -- one that is kept stays
  kept_stays : partial.keep ≡ true → without_unkept partial.target pool ≡ pool
  kept_stays kept =
      subst (λ (p : Pool). without_unkept partial.target p ≡ p) (sym under.pool_is)
      (ap (λ (ps : List Partial). record start { number = under.number; datasets = under.datasets; partials = ps })
      (all_pass (stays partial.target) (inserted row_before partial others)
      (pass_inserted (stays partial.target) partial others
      (ap (λ (k : Bool). not (bytes_eq partial.target partial.target && not k)) kept ∙ none (bytes_eq partial.target partial.target)) others_stay)))
    where
      none : (t : Bool) → not (t && false) ≡ true
      none true = refl
      none false = refl

  -- one that isn't goes, and nothing of its receive is left
  unkept_goes : partial_of ask.target start ≡ None → partial.keep ≡ false → HasNothing ask start (without_unkept partial.target pool)
  unkept_goes none fleeting =
      let same = untouched ask start pool partial asked under in
      record {
        untouched = record {
          id = same.id;
          guids = same.guids;
          later = same.later;
          datasets = same.datasets;
          snapshots = same.snapshots;
          bookmarks = same.bookmarks;
        };
        partials =
            ap (λ (p : Pool). filter (stays partial.target) p.partials) under.pool_is
            ∙ filter_inserted (stays partial.target) row_before partial others
            (ap (λ (b : Bool). not (b && not partial.keep)) (bytes_same partial.target partial.target refl) ∙ ap (λ (k : Bool). not (not k)) fleeting)
            ∙ all_pass (stays partial.target) others others_stay
            ∙ others_all (λ (p : Partial). bytes_eq p.target ask.target) start.partials none;
      }

-- ---- a piece that is refused

module _ (law : ReceivedIsApplied) (agree : FrontsAgree) (ask : RecvAsk) (start pool after : Pool) (pieces : List (List ℕ)) (piece : List ℕ) (refusal : Refusal)
    (is : IsRefused ask start pieces piece pool after refusal) where
  abbrev pub text : List ℕ
  text = concat pieces ++ piece

  abbrev pub before : List Covered
  before = (reading (concat pieces)).covered

  abbrev pub new : List Covered
  new = new_records (concat pieces) piece

  abbrev pub done : EndedBatch
  done = batch_of ask pool new (at_stage is.stage)

  abbrev pub first : Option Refusal
  first = first_fault done.fault (fault_of (reading text).outcome)

  stands : Stands ask start is.stage pool
  stands = (subst (λ (f : Fed). Way law ask start before f) is.went (receives_way law ask start agree pieces)).0

  applied : Applied ask start pool is.stage before
  applied = (subst (λ (f : Fed). Way law ask start before f) is.went (receives_way law ask start agree pieces)).1

  all : before ++ new ≡ (reading text).covered
  all = sym (new_are agree (concat pieces) piece)

  front : TakenFront law ask start pool (before ++ new) done
  front = taken_front law ask start pool before new (at_stage is.stage) (subst (λ (cs : List Covered). FirstIsBegin cs) (sym all) (first_is_begin text)) applied

  split : front.front ++ front.left ≡ (reading text).covered
  split = front.split ∙ all

  worked : Worked ask start is.stage done.batch
  worked = feed_worked ask start is.stage pool new stands

  stopped : Stopped is.stage pool done.batch first after refusal
  unfolding fed
  stopped = stopped_so is.stage pool done.batch after refusal first (sym (receives_last ask start pool pieces piece is.stage is.went) ∙ is.stops)

  -- what is taken of a receive is kept as that is
  kept_as : (stage : Stage) → Asked ask start stage → is_kept stage ≡ true → keep_by ask start ≡ true
  kept_as Waits asked kept = absurd cc
  kept_as (Lives flags partial) asked kept = sym asked.keep ∙ kept
  kept_as (Ends partial) asked kept = absurd cc

  -- ---- where BEGIN was planned

  module _ (planned : IsPlanned ask start (reading text).covered) (told : first ≡ Some refusal) where
    -- the partial state that is under way where a fault is told
    record Living : Type 0 where
      flags : ℕ
      partial : Partial
      stage_is : done.batch.stage ≡ Lives flags partial
      behind : AppliedBehind ask start front.front flags partial

    first_record : (c : Covered) (rest : List Covered) → c ∷ rest ≡ (reading text).covered → c.head ≡ heads.Begin planned.header planned.len
    first_record c rest e = let both = e ∙ planned.records_are in let same : c ≡ planned.first = cc in ap (λ (d : Covered). d.head) same ∙ planned.head_is

    begins_well : (c : Covered) (batch : Batch) (fault : Refusal) (head : Head) → head ≡ heads.Begin planned.header planned.len → pool ≡ start → began ask pool batch head ≡ Err fault → ⊥
    begins_well c batch fault head begins same e =
        let at_begin = subst (λ (h : Head). began ask pool batch h ≡ Err fault) begins e in
        let at_start = subst (λ (p : Pool). (of_plan (recv_plan ask planned.header p) >>= λ plan. Ok (opened ask planned.header plan)) ≡ Err fault) same at_begin in
        let passed = subst (λ (r : Result RecvPlan PlanFault). (of_plan r >>= λ plan. Ok (opened ask planned.header plan)) ≡ Err fault) planned.planned at_start in cc

    not_waiting : done.batch.stage ≡ Waits → pool ≡ start → front.front ≡ [] → ⊥
    not_waiting waits same none = go done.fault front.left front.why (sym (ap (λ (cs : List Covered). cs ++ front.left) none) ∙ split)
      where
        go : (o : Option Refusal) (left : List Covered) → WhyLeft law ask start pool done.batch o left → left ≡ (reading text).covered → ⊥
        go None left why e = let both = sym why ∙ e ∙ planned.records_are in cc
        go (Some fault) left why e =
            let c = why.0 in
            begins_well c done.batch fault c.head (first_record c why.1 (sym why.2 ∙ e)) same (subst (λ (s : Stage). taken_at ask pool c done.batch s ≡ Err fault) waits why.3)

    not_ended : (partial : Partial) → done.batch.stage ≡ Ends partial → BehindEnd ask start front.front partial → ⊥
    not_ended partial ends ended = go done.fault front.left front.why told split
      where
        complete_not : (outcome : Outcome) → outcome ≡ complete → fault_of outcome ≡ Some refusal → ⊥
        complete_not outcome is e = let both = sym (ap fault_of is) ∙ e in cc

        go : (o : Option Refusal) (left : List Covered) → WhyLeft law ask start pool done.batch o left → first_fault o (fault_of (reading text).outcome) ≡ Some refusal
            → front.front ++ left ≡ (reading text).covered → ⊥
        go None left why e parts =
            let outcome = (reading text).outcome in
            let covered : (reading text).covered ≡ ended.front ++ ended.last ∷ (ended.more ++ left) =
            sym parts ∙ ap (λ (cs : List Covered). cs ++ left) ended.records_are ∙ append_assoc ended.front (ended.last ∷ ended.more) left in
            let last = end_completes ended.front ended.last (ended.more ++ left) outcome (subst (λ (cs : List Covered). EndsBy cs outcome) covered (ends_last text)) ended.ends in
            complete_not outcome last.1 e
        go (Some fault) left why e parts = let refused = subst (λ (s : Stage). taken_at ask pool why.0 done.batch s ≡ Err fault) ends why.3 in cc

    living : Living
    living = go done.batch.stage refl front.applied
      where
        go : (s : Stage) → done.batch.stage ≡ s → Applied ask start pool s front.front → Living
        go Waits is applied = absurd (not_waiting is applied.0 applied.1)
        go (Lives flags partial) is applied = record { flags = flags; partial = partial; stage_is = is; behind = applied }
        go (Ends partial) is applied = absurd (not_ended partial is applied)

    asked : IsAsked ask start living.partial
    asked = subst (λ (s : Stage). Asked ask start s) living.stage_is worked.asked

    kept_front : keep_by ask start ≡ true → put done.batch pool ≡ Ok after → KeepsFront ask start pool after (reading text) refusal
    kept_front kept e =
        let now = subst (λ (s : Stage). Stands ask start s after) living.stage_is (put_stands ask start is.stage pool after new is.unended stands e) in
        record {
          front = front.front;
          left = front.left;
          split = sym split;
          flags = living.flags;
          partial = living.partial;
          applied = living.behind;
          fault = ends_at law ask start pool done.batch living.flags living.partial done.fault front.left (reading text).outcome refusal living.stage_is front.why told;
          has = living_partial ask start after living.partial asked now.runs (asked.keep ∙ kept);
          once = put_once done.batch pool after e;
        }

    stays_then : keep_by ask start ≡ true → is_kept done.batch.stage ≡ true
    stays_then kept = ap is_kept living.stage_is ∙ asked.keep ∙ kept

  -- where a fault is told, whatever is kept
  pub record ToldAt : Type 0 where
    pub front : List Covered
    pub left : List Covered
    pub split : front ++ left ≡ (reading text).covered
    pub flags : ℕ
    pub partial : Partial
    pub behind : AppliedBehind ask start front flags partial
    pub fault : EndsAtFault (pool.number + 1) flags partial left (reading text).outcome refusal

  pub told_at : IsPlanned ask start (reading text).covered → first ≡ Some refusal → ToldAt
  told_at planned told =
      let under = living planned told in
      record {
        front = front.front;
        left = front.left;
        split = split;
        flags = under.flags;
        partial = under.partial;
        behind = under.behind;
        fault = ends_at law ask start pool done.batch under.flags under.partial done.fault front.left (reading text).outcome refusal under.stage_is front.why told;
      }

  -- where nothing is covered the reading finds it
  pub told_uncovered : (reading text).covered ≡ [] → first ≡ Some refusal → (fault : StreamFault) × ((reading text).outcome ≡ faulty fault)
  told_uncovered none told = go done.fault front.left front.why told split
    where
      nothing : (xs : List Covered) (c : Covered) (ys : List Covered) → xs ++ c ∷ ys ≡ [] → ⊥
      nothing [] c ys e = cc
      nothing (x ∷ xs) c ys e = cc

      go : (o : Option Refusal) (left : List Covered) → WhyLeft law ask start pool done.batch o left → first_fault o (fault_of (reading text).outcome) ≡ Some refusal
          → front.front ++ left ≡ (reading text).covered → (fault : StreamFault) × ((reading text).outcome ≡ faulty fault)
      go None left why e parts = let found = stream_fault (reading text).outcome refusal e in (found.0, found.1)
      go (Some fault) left why e parts =
          absurd (nothing front.front why.0 why.1 (sym (ap (λ (cs : List Covered). front.front ++ cs) why.2) ∙ parts ∙ none))

  -- why it is refused at all
  pub refused_by : (put done.batch pool ≡ Err refusal) ⊎ (first ≡ Some refusal)
  refused_by = go stopped
    where
      go : Stopped is.stage pool done.batch first after refusal → (put done.batch pool ≡ Err refusal) ⊎ (first ≡ Some refusal)
      go (inl refused) = inl refused.0
      go (inr told) = inr told.0

  pub faults_keep : keep_by ask start ≡ true → IsPlanned ask start (reading text).covered → IsOfRecords refusal → KeepsFront ask start pool after (reading text) refusal
  faults_keep kept planned of = go stopped
    where
      dropped : first ≡ Some refusal → (keeps_front refusal && is_kept done.batch.stage) ≡ false → ⊥
      dropped told none = let both = sym (stays_then planned told kept) ∙ right_fails (keeps_front refusal) (is_kept done.batch.stage) none (front_stays refusal of) in cc

      by : first ≡ Some refusal → (((keeps_front refusal && is_kept done.batch.stage) ≡ true) × (put done.batch pool ≡ Ok after))
          ⊎ (((keeps_front refusal && is_kept done.batch.stage) ≡ false) × (after ≡ left_by is.stage pool)) → KeepsFront ask start pool after (reading text) refusal
      by told (inl with_front) = kept_front planned told kept with_front.1
      by told (inr without) = absurd (dropped told without.0)

      go : Stopped is.stage pool done.batch first after refusal → KeepsFront ask start pool after (reading text) refusal
      go (inl refused) = absurd (put_refused done.batch pool refusal refused.0 of)
      go (inr told) = by told.0 told.1

  -- ---- other refusals

  -- the batch isn't one that stays, or the refusal is one of records
  abbrev Dropped : Type 0
  Dropped = (keeps_front refusal && is_kept done.batch.stage) ≡ true → ⊥

  left_then : Dropped → after ≡ left_by is.stage pool
  left_then dropped = go stopped
    where
      by : (((keeps_front refusal && is_kept done.batch.stage) ≡ true) × (put done.batch pool ≡ Ok after))
          ⊎ (((keeps_front refusal && is_kept done.batch.stage) ≡ false) × (after ≡ left_by is.stage pool)) → after ≡ left_by is.stage pool
      by (inl with_front) = absurd (dropped with_front.0)
      by (inr without) = without.1

      go : Stopped is.stage pool done.batch first after refusal → after ≡ left_by is.stage pool
      go (inl refused) = refused.1
      go (inr told) = by told.1

  fails : (a b : Bool) → (a ≡ false) ⊎ (b ≡ false) → (a && b) ≡ true → ⊥
  fails true b (inl none) e = cc
  fails true b (inr none) e = let both = sym e ∙ none in cc
  fails false b none e = cc

  kept_left : (stage : Stage) → keep_by ask start ≡ true → is_done stage ≡ false → Stands ask start stage pool → left_by stage pool ≡ pool
  kept_left Waits kept unended at = refl
  kept_left (Lives flags partial) kept unended at = kept_stays ask start pool partial at.asked at.runs (at.asked.keep ∙ kept)
  kept_left (Ends partial) kept unended at = refl

  pub others_leave : keep_by ask start ≡ true → (IsOfRecords refusal → ⊥) → after ≡ pool
  others_leave kept other = left_then (fails (keeps_front refusal) (is_kept done.batch.stage) (inl (go (keeps_front refusal) refl))) ∙ kept_left is.stage kept is.unended stands
    where
      go : (t : Bool) → keeps_front refusal ≡ t → keeps_front refusal ≡ false
      go true e = absurd (other (front_of refusal e))
      go false e = e

  unkept_left : (stage : Stage) → partial_of ask.target start ≡ None → keep_by ask start ≡ false → is_done stage ≡ false → Stands ask start stage pool → HasNothing ask start (left_by stage pool)
  unkept_left Waits none fleeting unended at =
      subst (λ (p : Pool). HasNothing ask start p) (sym at.runs)
      (record { untouched = record { id = refl; guids = refl; later = omega arith; datasets = inl refl; snapshots = refl; bookmarks = refl }; partials = refl })
  unkept_left (Lives flags partial) none fleeting unended at = unkept_goes ask start pool partial at.asked at.runs none (at.asked.keep ∙ fleeting)
  unkept_left (Ends partial) none fleeting unended at = absurd cc

  pub unkept_leave : partial_of ask.target start ≡ None → ask.keep ≡ false → HasNothing ask start after
  unkept_leave none fleeting =
      let so : keep_by ask start ≡ false = ap (λ (o : Option Partial). option_map_or (λ old. old.keep) o ask.keep) none ∙ fleeting in
      subst (λ (p : Pool). HasNothing ask start p) (sym (left_then (fails (keeps_front refusal) (is_kept done.batch.stage) (inr (go so (is_kept done.batch.stage) refl)))))
      (unkept_left is.stage none so is.unended stands)
    where
      go : keep_by ask start ≡ false → (t : Bool) → is_kept done.batch.stage ≡ t → is_kept done.batch.stage ≡ false
      go so true e = absurd (let both = sym so ∙ kept_as done.batch.stage worked.asked e in cc)
      go so false e = e

  -- ---- where nothing was begun

  abbrev Unbegun : Type 0
  Unbegun = (front left : List Covered) (flags : ℕ) (partial : Partial) → front ++ left ≡ (reading text).covered → AppliedBehind ask start front flags partial → ⊥

  record IsWaiting (stage : Stage) (front : List Covered) : Type 0 where
    waits : stage ≡ Waits
    same : pool ≡ start
    none : front ≡ []

  waiting : Unbegun → (stage : Stage) (front left : List Covered) → front ++ left ≡ (reading text).covered → Applied ask start pool stage front → IsWaiting stage front
  waiting none Waits some left parts at = record { waits = refl; same = at.0; none = at.1 }
  waiting none (Lives flags partial) some left parts behind = absurd (none some left flags partial parts behind)
  waiting none (Ends partial) some left parts ended =
      absurd (none ended.front ((ended.last ∷ ended.more) ++ left) ended.flags partial
      (sym (append_assoc ended.front (ended.last ∷ ended.more) left) ∙ sym (ap (λ (cs : List Covered). cs ++ left) ended.records_are) ∙ parts) ended.behind)

  waiting_then : Unbegun → IsWaiting done.batch.stage front.front
  waiting_then none = waiting none done.batch.stage front.front front.left split front.applied

  unbegun_left : Unbegun → after ≡ start
  unbegun_left none =
      let now = waiting none is.stage before new all applied in
      left_then (fails (keeps_front refusal) (is_kept done.batch.stage) (inr (ap is_kept (waiting_then none).waits)))
      ∙ ap (λ (s : Stage). left_by s pool) now.waits ∙ now.same

  none_covered : (reading text).covered ≡ [] → Unbegun
  none_covered none some left flags partial parts behind = let both = sym (ap (λ (cs : List Covered). cs ++ left) behind.records_are) ∙ parts ∙ none in cc

  module _ (c : Covered) (rest : List Covered) (header : Header) (len : ℕ) (fault : PlanFault) (covered : (reading text).covered ≡ c ∷ rest) (begins : c.head ≡ heads.Begin header len)
      (unplanned : recv_plan ask header start ≡ Err fault) where
    same_begin : (one other : Header) (n m : ℕ) → heads.Begin one n ≡ heads.Begin other m → one ≡ other
    same_begin one other n m e = cc

    none_planned : Unbegun
    none_planned some left flags partial parts behind =
        let both = sym (ap (λ (cs : List Covered). cs ++ left) behind.records_are) ∙ parts ∙ covered in
        let same : behind.first ≡ c = cc in
        let one = same_begin behind.is.header header behind.len len (sym behind.head_is ∙ ap (λ (d : Covered). d.head) same ∙ begins) in
        let ok = sym (subst (λ (h : Header). recv_plan ask h start ≡ Ok behind.is.plan) one behind.is.planned) ∙ unplanned in cc

    plan_told : first ≡ Some refusal → refusal ≡ refusal_of fault
    plan_told told = go done.fault front.left front.why told (sym (ap (λ (cs : List Covered). cs ++ front.left) (waiting_then none_planned).none) ∙ split)
      where
        began_fault : (batch : Batch) (other : Refusal) → began ask pool batch (heads.Begin header len) ≡ Err other → other ≡ refusal_of fault
        began_fault batch other e =
            let at_start = subst (λ (p : Pool). (of_plan (recv_plan ask header p) >>= λ plan. Ok (opened ask header plan)) ≡ Err other) (waiting_then none_planned).same e in
            let failed = subst (λ (r : Result RecvPlan PlanFault). (of_plan r >>= λ plan. Ok (opened ask header plan)) ≡ Err other) unplanned at_start in cc

        go : (o : Option Refusal) (left : List Covered) → WhyLeft law ask start pool done.batch o left → first_fault o (fault_of (reading text).outcome) ≡ Some refusal → left ≡ (reading text).covered → refusal ≡ refusal_of fault
        go None left why e parts = absurd (let both = sym why ∙ parts ∙ covered in cc)
        go (Some other) left why e parts =
            let both = sym why.2 ∙ parts ∙ covered in
            let same : why.0 ≡ c = cc in
            let refused = subst (λ (s : Stage). taken_at ask pool why.0 done.batch s ≡ Err other) (waiting_then none_planned).waits why.3 in
            let at_begin = subst (λ (h : Head). began ask pool done.batch h ≡ Err other) (ap (λ (d : Covered). d.head) same ∙ begins) refused in
            sym (same_Some other refusal e) ∙ began_fault done.batch other at_begin

    unplanned_leave : (after ≡ start) × (refusal ≡ refusal_of fault)
    unplanned_leave = (unbegun_left none_planned, go stopped)
      where
        go : Stopped is.stage pool done.batch first after refusal → refusal ≡ refusal_of fault
        go (inl refused) = absurd (waits_put done.batch pool refusal (waiting_then none_planned).waits refused.0)
        go (inr told) = plan_told told.0

  pub unbegun_leave : ((reading text).covered ≡ [] → after ≡ start)
      × ((c : Covered) (rest : List Covered) (header : Header) (len : ℕ) (fault : PlanFault) → (reading text).covered ≡ c ∷ rest
      → c.head ≡ heads.Begin header len → recv_plan ask header start ≡ Err fault → (after ≡ start) × (refusal ≡ refusal_of fault))
  unbegun_leave = (λ none. unbegun_left (none_covered none), λ c rest header len fault covered begins unplanned. unplanned_leave c rest header len fault covered begins unplanned)

pub faults_keep_front : FrontsAgree → ReceivedIsApplied → FaultsKeepFront
faults_keep_front agree law ask start pool after pieces piece refusal is kept planned of = faults_keep law agree ask start pool after pieces piece refusal is kept planned of

pub others_leave_all : FrontsAgree → ReceivedIsApplied → OthersLeaveAll
others_leave_all agree law ask start pool after pieces piece refusal is kept other = others_leave law agree ask start pool after pieces piece refusal is kept other

pub unplanned_leave_all : FrontsAgree → ReceivedIsApplied → UnplannedLeaveAll
unplanned_leave_all agree law ask start pool after pieces piece refusal is = unbegun_leave law agree ask start pool after pieces piece refusal is

pub unkept_leave_nothing : FrontsAgree → ReceivedIsApplied → UnkeptLeaveNothing
unkept_leave_nothing agree law ask start pool after pieces piece refusal is none fleeting = unkept_leave law agree ask start pool after pieces piece refusal is none fleeting
