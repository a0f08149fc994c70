-- Streams that a receive accepts.
use Rattle.std.proofs.Common.{◌≡◌, ◌≢◌, ℕ, ◌+◌, ◌<◌, ◌≤◌, Bool, true, not, ◌&&◌, ◌==◌, nat_lt, List, ◌∷◌, ◌++◌, length, Option, Some, None, is_some, Result, Ok, bit_and, if◌then◌else◌, bytes_eq, refl, sym, ap, ◌∙◌, subst, arith, find}
use Rattle.std.specs.Option.{IfSome, option_map_or}
use Rattle.std.proofs.lemmas.Bool.{and_from, and_parts, eq-eqb, eqb-true, le-ltb, not-false, not_from_true}
use Rattle.zst_model.specs.declared.refusals.faults.Quantity.TheVariants as quantities
use Rattle.zst_model.specs.declared.refusals.subjects.Name.TheVariants as names
use Rattle.zst_model.specs.declared.refusals.subjects.PresentSubject.TheVariants as present
use Rattle.zst_model.specs.declared.refusals.plan_fault.PlanFault.{PlanFault}
use Rattle.zst_model.specs.declared.refusals.plan_fault.PlanFault.TheVariants as plans
use Rattle.zst_model.specs.declared.sends.header.Header.{Header}
use Rattle.zst_model.specs.declared.sends.header.Point.{Point}
use Rattle.zst_model.specs.pools.Limits.{most_datasets, most_partials, most_snapshots}
use Rattle.zst_model.specs.pools.Pool.{Pool, Dataset, Snapshot, Bookmark, Partial, IsNamed, dataset_named, partial_of, snapshot_named}
use Rattle.zst_model.specs.pools.Step.{count_datasets}
use Rattle.zst_model.specs.sends.Features.{resuming}
use Rattle.zst_model.specs.sends.Points.{stated_point}
use Rattle.zst_model.specs.sends.SendPlan.{kind_of}
use Rattle.zst_model.specs.states.AppliedItems.{unless}
use Rattle.zst_model.proofs.OrderLaws.{bytes_same, same_bytes}
use Rattle.zst_model.proofs.Results.{bind_ok, unless_ok}
use Rattle.zst_laws.proofs.pools.Rows.{named_found}
use Rattle.zst_laws.proofs.pools.StepRefusals.{passed}
use Rattle.zst_plan.specs.AcceptedStreams.{GoesOn, GoingOnIsExact, HasRoom, IsContained, IsContainedIn, IsFresh, IsLaterMark, IsResumed, KeepsDatasets, StreamsBegin, StreamsGoOn, TakesBase, TakesNothing, TakesLatest, RollsBack, Clones, over}
use Rattle.zst_plan.specs.RecvPlan.{Base, RecvPlan, Resumes, Begins, base_for, component_for, fresh_plan, goes_on, if_room, if_within, is_contained, is_point, is_resumed, new_datasets, recv_plan, redacted_for, resumed_plan, rolled_back, wrong_resume}
use Rattle.zst_plan.specs.declared.receive.RecvAsk.{RecvAsk}
use Rattle.zst_plan.proofs.FirstElements.{none_found}
use Rattle.zst_plan.proofs.PlanSteps.{by_head, clones, kind_found, named_there, of_base, of_full, of_new, on_fresh, on_partial, plan_of_component, same_kind}
use Rattle.zst_plan.proofs.PlanTests.{bit_is_there, bit_there, contained, dated_after, later_mark, not_dated_after}
use Rattle.zst_plan.proofs.ReceiveChecks.{head_rolls, is_later, rolled_by, with_base}

-- ---- streams that begin

module _ (ask : RecvAsk) (header : Header) (pool : Pool) where
  -- the base by the head's date
  abbrev by_date : Dataset → Snapshot → Bool → Result Base PlanFault
  by_date dataset latest later = if later then unless (not ask.force) (plans.Modified dataset.name) (rolled_back dataset latest pool) else Ok (over latest)

  -- the first bookmark that is later, if there is one
  abbrev pub later_found : Dataset → Snapshot → Option Bookmark
  later_found dataset latest = find (is_later dataset.name latest.number) pool.bookmarks

  -- a stream's base is found
  pub base_found : {base : Base} → IsNamed pool → TakesBase ask header pool base → base_for ask header pool ≡ Ok base
  base_found named (TakesNothing new zero) = of_new ask header pool new ∙ of_full ask header pool zero
  base_found named (TakesLatest dataset latest onto kept) =
      by_head ask header pool dataset latest named onto ∙ ap (by_date dataset latest) (not_dated_after latest.number dataset.head kept)
  base_found named (RollsBack dataset latest onto later force none) =
      let name = named_there ask header pool dataset onto.into.there in
      by_head ask header pool dataset latest named onto
      ∙ head_rolls dataset latest pool ask.force (dated_after latest.number dataset.head later) force
      ∙ ap (rolled_by latest)
      (none_found (is_later dataset.name latest.number) (IsLaterMark ask.target latest) pool.bookmarks
      (λ b k e. let mark = later_mark dataset.name latest b e in (mark.0 ∙ name, mark.1)) none)
  base_found named (Clones dataset snapshot is found same) =
      clones ask header pool snapshot is ∙ same_kind ask header pool (kind_of pool snapshot) (Ok (over snapshot)) (kind_found pool snapshot dataset found ∙ same)

-- a base that is contained passes
pub passes_contained : (base : Base) (header : Header) → IsContainedIn base header → is_contained (redacted_for base.snapshot) header ≡ true
passes_contained base header is = go base.snapshot is
  where
    go : (o : Option Snapshot) → IfSome o (λ snapshot. IsContained snapshot.redact header) → is_contained (redacted_for o) header ≡ true
    go None is = refl
    go (Some snapshot) is = contained snapshot.redact header is

-- the room for one more
pub datasets_fit : (target : List ℕ) (pool : Pool) → KeepsDatasets target pool → count_datasets pool + new_datasets target pool ≤ 256
datasets_fit target pool keeps = go (dataset_named target pool) refl
  where
    go : (o : Option Dataset) → dataset_named target pool ≡ o → count_datasets pool + (if is_some o then 0 else 1) ≤ 256
    go None e = omega (arith, keeps.one_more e)
    go (Some dataset) e = omega (arith, keeps.few)

module _ (target : List ℕ) (pool : Pool) (rest : Result RecvPlan PlanFault) where
  abbrev pub snapshots_left : Result RecvPlan PlanFault
  snapshots_left = if_within quantities.Snapshots 1024 (length pool.snapshots + (length pool.partials + 1)) rest

  abbrev pub datasets_left : Result RecvPlan PlanFault
  datasets_left = if_within quantities.Datasets 256 (count_datasets pool + new_datasets target pool) snapshots_left

  pub to_partials : if_room target pool rest ≡ if_within quantities.Partials 16 (length pool.partials + 1) datasets_left
  unfolding most_partials most_datasets most_snapshots
  to_partials = refl

  pub to_datasets : length pool.partials < 16 → if_room target pool rest ≡ datasets_left
  to_datasets few =
      to_partials
      ∙ passed (nat_lt 16 (length pool.partials + 1)) (plans.Limit quantities.Partials 16) datasets_left (le-ltb 16 (length pool.partials + 1) (omega (arith, few)))

  pub to_snapshots : length pool.partials < 16 → KeepsDatasets target pool → if_room target pool rest ≡ snapshots_left
  to_snapshots few keeps =
      to_datasets few
      ∙ passed (nat_lt 256 (count_datasets pool + new_datasets target pool)) (plans.Limit quantities.Datasets 256) snapshots_left
      (le-ltb 256 (count_datasets pool + new_datasets target pool) (datasets_fit target pool keeps))

  pub room_left : HasRoom target pool → if_room target pool rest ≡ rest
  room_left has =
      to_snapshots has.partials has.datasets
      ∙ passed (nat_lt 1024 (length pool.snapshots + (length pool.partials + 1))) (plans.Limit quantities.Snapshots 1024) rest
      (le-ltb 1024 (length pool.snapshots + (length pool.partials + 1)) (omega (arith, has.snapshots)))

-- what is left once the base is known
module _ (ask : RecvAsk) (header : Header) (pool : Pool) (component : List ℕ) where
  abbrev pub to_room : Base → Result RecvPlan PlanFault
  to_room base = if_room ask.target pool (Ok (Begins component base))

  abbrev pub to_name : Base → Option Snapshot → Result RecvPlan PlanFault
  to_name base found = unless (is_some found) (plans.Exists (present.Named (names.Snapshot (ask.target ++ 64 ∷ component)))) (to_room base)

  pub on_base : (base : Base) → IsFresh ask header pool component → TakesBase ask header pool base → recv_plan ask header pool ≡ with_base ask header component pool base
  on_base base fresh takes = on_fresh ask header pool component fresh ∙ ap (of_base ask header pool component) (base_found ask header pool fresh.named takes)

  pub on_contained : (base : Base) → IsFresh ask header pool component → TakesBase ask header pool base → IsContainedIn base header
      → recv_plan ask header pool ≡ to_name base (snapshot_named (ask.target ++ 64 ∷ component) pool)
  on_contained base fresh takes is =
      on_base base fresh takes
      ∙ passed (not (is_contained (redacted_for base.snapshot) header)) _ (to_name base (snapshot_named (ask.target ++ 64 ∷ component) pool))
      (not_from_true (is_contained (redacted_for base.snapshot) header) (passes_contained base header is))

  pub on_room : (base : Base) → IsFresh ask header pool component → TakesBase ask header pool base → IsContainedIn base header
      → snapshot_named (ask.target ++ 64 ∷ component) pool ≡ None → recv_plan ask header pool ≡ to_room base
  on_room base fresh takes is free = on_contained base fresh takes is ∙ ap (to_name base) free

pub begins : StreamsBegin
begins ask header pool component base fresh takes is free room =
    on_room ask header pool component base fresh takes is free ∙ room_left ask.target pool (Ok (Begins component base)) room

-- ---- streams that go on

module _ (partial : Partial) (header : Header) where
  -- the parts of the test
  abbrev same_guids : Bool
  same_guids = partial.header.to == header.to && partial.header.from == header.from

  abbrev same_sets : Bool
  same_sets = bytes_eq partial.header.redact header.redact && bytes_eq partial.header.from_redact header.from_redact

  abbrev same_point : Bool
  same_point = is_point partial.point (stated_point header.resume)

  point_found : partial.point ≡ stated_point header.resume → same_point ≡ true
  point_found e =
      and_from (partial.point.object == (stated_point header.resume).object) (partial.point.offset == (stated_point header.resume).offset)
      (eq-eqb partial.point.object (stated_point header.resume).object (ap (λ (p : Point). p.object) e))
      (eq-eqb partial.point.offset (stated_point header.resume).offset (ap (λ (p : Point). p.offset) e))

  point_is : same_point ≡ true → partial.point ≡ stated_point header.resume
  point_is e =
      let both = and_parts (partial.point.object == (stated_point header.resume).object) (partial.point.offset == (stated_point header.resume).offset) e in
      let object = eqb-true partial.point.object (stated_point header.resume).object both.0 in
      let offset = eqb-true partial.point.offset (stated_point header.resume).offset both.1 in
      ap (λ (n : ℕ). record { object = n; offset = partial.point.offset }) object ∙ ap (λ (n : ℕ). record { object = (stated_point header.resume).object; offset = n }) offset

  pub goes_on_so : GoesOn partial header → goes_on partial header ≡ true
  goes_on_so is =
      and_from same_guids (same_point && same_sets)
      (and_from (partial.header.to == header.to) (partial.header.from == header.from) (eq-eqb partial.header.to header.to is.to) (eq-eqb partial.header.from header.from is.from))
      (and_from same_point same_sets (point_found is.point)
      (and_from (bytes_eq partial.header.redact header.redact) (bytes_eq partial.header.from_redact header.from_redact)
      (bytes_same partial.header.redact header.redact is.redact) (bytes_same partial.header.from_redact header.from_redact is.from_redact)))

  pub it_goes_on : goes_on partial header ≡ true → GoesOn partial header
  it_goes_on e =
      let all = and_parts same_guids (same_point && same_sets) e in
      let guids = and_parts (partial.header.to == header.to) (partial.header.from == header.from) all.0 in
      let rest = and_parts same_point same_sets all.1 in
      let sets = and_parts (bytes_eq partial.header.redact header.redact) (bytes_eq partial.header.from_redact header.from_redact) rest.1 in
      record {
        to = eqb-true partial.header.to header.to guids.0;
        from = eqb-true partial.header.from header.from guids.1;
        point = point_is rest.0;
        redact = same_bytes partial.header.redact header.redact sets.0;
        from_redact = same_bytes partial.header.from_redact header.from_redact sets.1;
      }

  abbrev pub to_place : Result RecvPlan PlanFault
  to_place = unless (not (goes_on partial header)) (wrong_resume partial header) (Ok (Resumes partial))

  -- behind E13
  pub past_plain : bit_and header.features resuming ≢ 0 → resumed_plan header partial ≡ to_place
  past_plain some =
      passed (not (is_resumed header)) (plans.PartialExists partial.target) to_place (not_from_true (is_resumed header) (bit_there (bit_and header.features resuming) some))

pub go_on : StreamsGoOn
go_on ask header pool component partial comes found some is =
    on_partial ask header pool partial comes found ∙ past_plain partial header some
    ∙ passed (not (goes_on partial header)) (wrong_resume partial header) (Ok (Resumes partial)) (not_from_true (goes_on partial header) (goes_on_so partial header is))

-- what a plan goes on with is what was found
same_partial : (a b : Partial) → ◌≡◌ {A = Result RecvPlan PlanFault} (Ok (Resumes a)) (Ok (Resumes b)) → a ≡ b
same_partial a b h = cc

never_begins : (component : List ℕ) (base : Base) (b : Partial) → ◌≡◌ {A = Result RecvPlan PlanFault} (Ok (Begins component base)) (Ok (Resumes b)) → ⊥
never_begins component base b h = absurd (cc)

module _ (ask : RecvAsk) (header : Header) (pool : Pool) (partial : Partial) where
  -- a plan without a partial state goes on with none
  fresh_begins : (component : List ℕ) → fresh_plan ask header component pool ≡ Ok (Resumes partial) → ⊥
  fresh_begins component h =
      let plain = unless_ok (is_resumed header) (plans.NoPartial ask.target) (of_base ask header pool component (base_for ask header pool)) (Resumes partial) h in
      let based = bind_ok (base_for ask header pool) (with_base ask header component pool) (Resumes partial) plain.1 in
      let inside = unless_ok (not (is_contained (redacted_for based.0.snapshot) header)) _ (to_name ask header pool component based.0 (snapshot_named (ask.target ++ 64 ∷ component) pool)) (Resumes partial) based.2 in
      let free = unless_ok (is_some (snapshot_named (ask.target ++ 64 ∷ component) pool)) _ (to_room ask header pool component based.0) (Resumes partial) inside.1 in
      let few = unless_ok (nat_lt 16 (length pool.partials + 1)) (plans.Limit quantities.Partials 16) (datasets_left ask.target pool (Ok (Begins component based.0))) (Resumes partial)
      (sym (to_partials ask.target pool (Ok (Begins component based.0))) ∙ free.1) in
      let fewer = unless_ok (nat_lt 256 (count_datasets pool + new_datasets ask.target pool)) (plans.Limit quantities.Datasets 256) (snapshots_left ask.target pool (Ok (Begins component based.0))) (Resumes partial) few.1 in
      let last = unless_ok (nat_lt 1024 (length pool.snapshots + (length pool.partials + 1))) (plans.Limit quantities.Snapshots 1024) (Ok (Begins component based.0)) (Resumes partial) fewer.1 in
      never_begins component based.0 partial last.1

  resumed_is : (found : Partial) → partial_of ask.target pool ≡ Some found → resumed_plan header found ≡ Ok (Resumes partial) → IsResumed ask header pool partial
  resumed_is found is h =
      let asked = unless_ok (not (is_resumed header)) (plans.PartialExists found.target) (to_place found header) (Resumes partial) h in
      let on = unless_ok (not (goes_on found header)) (wrong_resume found header) (Ok (Resumes found)) (Resumes partial) asked.1 in
      let same = same_partial found partial on.1 in
      let there = named_found (λ (p : Partial). p.target) ask.target pool.partials partial (is ∙ ap (λ p. Some p) same) in
      record {
        there = there.0;
        target = there.1;
        asked = bit_is_there (bit_and header.features resuming) (not-false (is_resumed header) asked.0);
        goes_on = subst (λ (p : Partial). GoesOn p header) same (it_goes_on found header (not-false (goes_on found header) on.0));
      }

pub only_goes_on : GoingOnIsExact
only_goes_on ask header pool partial h =
    let named = bind_ok (component_for ask header) (λ component. option_map_or (resumed_plan header) (partial_of ask.target pool) (fresh_plan ask header component pool))
    (Resumes partial) (sym (plan_of_component ask header pool) ∙ h) in
    go named.0 (partial_of ask.target pool) refl named.2
  where
    go : (component : List ℕ) (o : Option Partial) → partial_of ask.target pool ≡ o
        → option_map_or (resumed_plan header) o (fresh_plan ask header component pool) ≡ Ok (Resumes partial) → IsResumed ask header pool partial
    go component None e k = absurd (fresh_begins ask header pool partial component k)
    go component (Some found) e k = resumed_is ask header pool partial found e k
