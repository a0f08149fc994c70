-- Streams that a receive refuses.
use Rattle.std.proofs.Common.{◌≡◌, inl, inr, ℕ, ◌+◌, Bool, true, not, ◌&&◌, ◌||◌, ◌==◌, nat_lt, List, [], ◌∷◌, ◌++◌, length, Option, None, is_some, Result, Ok, Err, bit_and, if◌then◌else◌, refl, sym, ap, ◌∙◌, arith}
use Rattle.std.specs.Option.{option_map_or}
use Rattle.std.proofs.lemmas.Bool.{and_from, eq-eqb, eqb-true, false_from_ne_true, lt-ltb, ne_eqb, not_from_false, not_from_true, or_left, or_right, true≢false}
use Rattle.zst_names.specs.Names.{IsComponent, component_of}
use Rattle.zst_model.specs.declared.refusals.faults.Lack.TheVariants as lacks
use Rattle.zst_model.specs.declared.refusals.faults.Quantity.TheVariants as quantities
use Rattle.zst_model.specs.declared.refusals.subjects.Name.TheVariants as names
use Rattle.zst_model.specs.declared.refusals.subjects.PresentSubject.TheVariants as present
use Rattle.zst_model.specs.declared.refusals.plan_fault.PlanFault.{PlanFault}
use Rattle.zst_model.specs.declared.refusals.plan_fault.PlanFault.TheVariants as plans
use Rattle.zst_model.specs.declared.sends.header.Header.{Header}
use Rattle.zst_model.specs.pools.Pool.{Pool, Dataset, Snapshot}
use Rattle.zst_model.specs.pools.Step.{count_datasets}
use Rattle.zst_model.specs.sends.Features.{redacts, resuming}
use Rattle.zst_model.specs.sends.Headers.{free_records}
use Rattle.zst_model.specs.sends.SendPlan.{kind_of}
use Rattle.zst_model.specs.states.AppliedItems.{unless}
use Rattle.zst_model.proofs.FoundElements.{own_target}
use Rattle.zst_laws.proofs.pools.StepRefusals.{refused}
use Rattle.zst_plan.specs.AcceptedStreams.{IsFirst, IsLaterMark, over}
use Rattle.zst_plan.specs.RefusedStreams.{BaseIsRedacted, CloneIsOfKind, FullWantsFrees, HeadIsChanged, IsOutside, IsUntaken, LatestIsAbsent, LatestIsAnother, MakesDataset, MarkIsLater, NameHasNoMark, NameIsTaken, NameStops, OriginIsAbsent, OriginIsAnother, PartialIsAbsent, PartialIsElsewhere, PartialIsThere, PartialsAreFull, ReceivesAreFull, SourceIsAbsent, TargetIsOfKind, TargetIsThere, TargetsAreFull, TellsOutside, OutsideRedacted, OutsideSource, OutsideTo}
use Rattle.zst_plan.specs.RecvPlan.{Base, RecvPlan, Begins, base_by_head, base_for, behind_mark, cloned_base, component_stop, first_outside, goes_on, if_room, is_among, is_component, is_contained, is_full, is_resumed, new_datasets, outside_guid, recv_plan, redacted_for, rolled_back, stated_component, wrong_resume}
use Rattle.zst_plan.specs.declared.receive.RecvAsk.{RecvAsk}
use Rattle.zst_plan.proofs.AcceptedStreams.{datasets_left, it_goes_on, on_base, on_contained, on_room, past_plain, snapshots_left, to_datasets, to_partials, to_place, to_snapshots}
use Rattle.zst_plan.proofs.Components.{fails, stops_there}
use Rattle.zst_plan.proofs.ContainedBases.{among}
use Rattle.zst_plan.proofs.FirstElements.{first_found, none_found}
use Rattle.zst_plan.proofs.PlanSteps.{at_full, at_increment, by_head, clones, from_asked, from_latest, into_target, kind_found, named_there, of_asked, of_base, of_component, of_guid, of_increment, of_latest, of_named, of_new, of_source, on_fresh, on_partial, onto_target, other_kind, plan_of_component, with_frees, without_partial}
use Rattle.zst_plan.proofs.PlanTests.{behind_marked, behind_unmarked, bit_there, component_marked, component_unmarked, dated_after, is_found, later_mark, mark_is_later, no_bit, no_latest, not_contained}
use Rattle.zst_plan.proofs.ReceiveChecks.{head_rolls, is_later, rolled_by}

-- ---- the snapshot's name

-- a stated component, or E2 with its place
abbrev stated_at : ℕ → List ℕ → Result (List ℕ) PlanFault
stated_at behind component = unless (not (is_component component)) (plans.BadName (behind + component_stop component)) (Ok component)

stops_at : (behind : ℕ) (component : List ℕ) → (IsComponent component → ⊥) → stated_at behind component ≡ Err (plans.BadName (behind + component_stop component))
stops_at behind component none =
    refused (not (is_component component)) (plans.BadName (behind + component_stop component)) (Ok component) (not_from_false (is_component component) (fails component none))

-- the plan where the stream states its name
module _ (ask : RecvAsk) (header : Header) (pool : Pool) where
  by_name : ask.snap ≡ None → (name : List ℕ) → header.name ≡ name → recv_plan ask header pool ≡ of_component ask header pool (stated_at (behind_mark name) (component_of 64 name))
  by_name none name is =
      plan_of_component ask header pool ∙ ap (of_component ask header pool) (ap (from_asked ask header) none ∙ ap (λ (n : List ℕ). stated_component n) is)

pub name_stops : NameStops
name_stops ask header pool front text place none is before apart at =
    let name = front ++ 64 ∷ text in
    let stop = stops_there text place at in
    let behind = behind_marked front text before in
    let told : behind_mark name + component_stop text ≡ length front + 1 + place = omega (arith, behind, stop) in
    by_name ask header pool none name is
    ∙ ap (of_component ask header pool)
    (ap (stated_at (behind_mark name)) (component_marked front text before) ∙ stops_at (behind_mark name) text apart ∙ ap (λ (n : ℕ). Err (plans.BadName n)) told)

-- no bytes are no component
empty_is_none : IsComponent [] → ⊥
empty_is_none is = let some = is.some in omega (arith, some)

pub name_has_no_mark : NameHasNoMark
name_has_no_mark ask header pool none before =
    let behind = behind_unmarked header.name before in
    let told : behind_mark header.name + 0 ≡ length header.name = omega (arith, behind) in
    by_name ask header pool none header.name refl
    ∙ ap (of_component ask header pool)
    (ap (stated_at (behind_mark header.name)) (component_unmarked header.name before) ∙ stops_at (behind_mark header.name) [] empty_is_none
    ∙ ap (λ (n : ℕ). Err (plans.BadName n)) told)

-- ---- partial states

pub partial_there : PartialIsThere
partial_there ask header pool component partial comes found plain =
    on_partial ask header pool partial comes found
    ∙ refused (not (is_resumed header)) (plans.PartialExists partial.target) (to_place partial header) (not_from_false (is_resumed header) (no_bit (bit_and header.features resuming) plain))
    ∙ ap (λ (n : List ℕ). Err (plans.PartialExists n)) (own_target ask.target pool partial found)

pub partial_elsewhere : PartialIsElsewhere
partial_elsewhere ask header pool component partial comes found some other =
    on_partial ask header pool partial comes found ∙ past_plain partial header some
    ∙ refused (not (goes_on partial header)) (wrong_resume partial header) _
    (not_from_false (goes_on partial header) (false_from_ne_true (goes_on partial header) (λ e. other (it_goes_on partial header e))))

pub partial_absent : PartialIsAbsent
partial_absent ask header pool component comes none some =
    without_partial ask header pool component comes none
    ∙ refused (is_resumed header) (plans.NoPartial ask.target) (of_base ask header pool component (base_for ask header pool)) (bit_there (bit_and header.features resuming) some)

-- ---- a target that is there

module _ (ask : RecvAsk) (header : Header) (pool : Pool) where
  -- a test that a stream which makes its dataset passes
  makes_it : MakesDataset ask header → (is_full header || is_some ask.origin) ≡ true
  makes_it (inl zero) = or_left (is_full header) (is_some ask.origin) (eq-eqb header.from 0 zero)
  makes_it (inr (origin, asked)) = or_right (is_full header) (is_some ask.origin) (ap (λ (o : Option (List ℕ)). is_some o) asked)

pub target_there : TargetIsThere
target_there ask header pool component dataset fresh there makes =
    on_fresh ask header pool component fresh
    ∙ ap (of_base ask header pool component)
    (onto_target ask header pool dataset there
    ∙ refused (is_full header || is_some ask.origin) (plans.Exists (present.Named (names.Dataset ask.target))) _ (makes_it ask header pool makes))

pub latest_another : LatestIsAnother
latest_another ask header pool component dataset latest fresh into last differs =
    on_fresh ask header pool component fresh
    ∙ ap (of_base ask header pool component)
    (from_latest ask header pool dataset latest fresh.named into last
    ∙ refused (not (latest.guid == header.from)) (plans.NotLatest latest.guid header.from) _ (not_from_false (latest.guid == header.from) (ne_eqb latest.guid header.from differs)))

pub latest_absent : LatestIsAbsent
latest_absent ask header pool component dataset fresh into none =
    on_fresh ask header pool component fresh
    ∙ ap (of_base ask header pool component)
    (into_target ask header pool dataset into ∙ ap (of_latest ask header pool dataset) (no_latest pool ask.target none))

pub target_of_kind : TargetIsOfKind
target_of_kind ask header pool component dataset latest fresh into last same differs =
    on_fresh ask header pool component fresh
    ∙ ap (of_base ask header pool component)
    (of_source ask header pool dataset latest fresh.named into last same
    ∙ refused (not (dataset.kind == header.kind)) (plans.Unsupported lacks.Kind) (base_by_head ask.force dataset latest pool) (other_kind ask header pool dataset.kind differs))

module _ (ask : RecvAsk) (pool : Pool) (dataset : Dataset) (latest : Snapshot) where
  -- with a later date and without -F
  abbrev by_date : Bool → Bool → Result Base PlanFault
  by_date later force = if later then unless (not force) (plans.Modified dataset.name) (rolled_back dataset latest pool) else Ok (over latest)

pub head_changed : HeadIsChanged
head_changed ask header pool component dataset latest fresh onto later force =
    on_fresh ask header pool component fresh
    ∙ ap (of_base ask header pool component)
    (by_head ask header pool dataset latest fresh.named onto
    ∙ ap (λ (b : Bool). by_date ask pool dataset latest b ask.force) (dated_after latest.number dataset.head later)
    ∙ ap (by_date ask pool dataset latest true) force
    ∙ ap (λ (n : List ℕ). Err (plans.Modified n)) (named_there ask header pool dataset onto.into.there))

pub mark_later : MarkIsLater
mark_later ask header pool component dataset latest bookmark fresh onto later force first =
    let name = named_there ask header pool dataset onto.into.there in
    on_fresh ask header pool component fresh
    ∙ ap (of_base ask header pool component)
    (by_head ask header pool dataset latest fresh.named onto
    ∙ head_rolls dataset latest pool ask.force (dated_after latest.number dataset.head later) force
    ∙ ap (rolled_by latest)
    (first_found (is_later dataset.name latest.number) (IsLaterMark ask.target latest) pool.bookmarks
    (λ b k e. let mark = later_mark dataset.name latest b e in (mark.0 ∙ name, mark.1))
    bookmark (mark_is_later dataset.name latest bookmark (first.holds.0 ∙ sym name, first.holds.1)) first))

-- ---- a target that isn't there

pub origin_absent : OriginIsAbsent
origin_absent ask header pool component origin fresh none asked absent =
    on_fresh ask header pool component fresh
    ∙ ap (of_base ask header pool component) (of_asked ask header pool origin none asked ∙ ap (of_named ask header pool origin) absent)

pub origin_another : OriginIsAnother
origin_another ask header pool component origin fresh is some differs =
    on_fresh ask header pool component fresh
    ∙ ap (of_base ask header pool component)
    (at_increment ask header pool origin is some
    ∙ refused (not (origin.guid == header.from)) (plans.NotLatest origin.guid header.from) (with_frees ask header pool origin)
    (not_from_false (origin.guid == header.from) (ne_eqb origin.guid header.from differs)))

pub full_frees : FullWantsFrees
full_frees ask header pool component origin fresh is zero none =
    on_fresh ask header pool component fresh
    ∙ ap (of_base ask header pool component)
    (at_full ask header pool origin is zero
    ∙ refused (is_full header && bit_and header.flags free_records == 0) (plans.Unsupported lacks.FullWithoutFrees) (cloned_base header pool origin)
    (and_from (is_full header) (bit_and header.flags free_records == 0) (eq-eqb header.from 0 zero) (eq-eqb (bit_and header.flags free_records) 0 none)))

pub source_absent : SourceIsAbsent
source_absent ask header pool component fresh new some none =
    on_fresh ask header pool component fresh
    ∙ ap (of_base ask header pool component)
    (of_new ask header pool new ∙ of_increment ask header pool some
    ∙ ap (of_guid ask header pool)
    (none_found (λ s. s.guid == header.from) (λ (s : Snapshot). s.guid ≡ header.from) pool.snapshots (λ s k e. eqb-true s.guid header.from e) none))

pub clone_of_kind : CloneIsOfKind
clone_of_kind ask header pool component dataset snapshot fresh is found differs =
    on_fresh ask header pool component fresh
    ∙ ap (of_base ask header pool component)
    (clones ask header pool snapshot is
    ∙ refused (not (kind_of pool snapshot == header.kind)) (plans.Unsupported lacks.Kind) (Ok (over snapshot))
    (other_kind ask header pool (kind_of pool snapshot) (λ e. differs (sym (kind_found pool snapshot dataset found) ∙ e))))

-- ---- containment

module _ (guids : List ℕ) (header : Header) where
  -- the first that is outside is found
  outside_found : (stated : List ℕ) (guid : ℕ) → IsFirst (IsOutside guids) stated guid → first_outside guids stated header.to ≡ guid
  outside_found stated guid first =
      ap (λ (o : Option ℕ). option_map_or (λ g. g) o header.to)
      (first_found (λ g. not (is_among guids g)) (IsOutside guids) stated (λ g k e there. true≢false (sym e ∙ not_from_true (is_among guids g) (is_found guids g there))) guid
      (not_from_false (is_among guids guid) (false_from_ne_true (is_among guids guid) (λ e. first.holds (among guids guid e)))) first)

  abbrev told : Bool → ℕ
  told redacted = if redacted then first_outside guids header.redact header.to else first_outside guids header.from_redact header.to

  pub outside_told : (guid : ℕ) → TellsOutside guids header guid → outside_guid guids header ≡ guid
  outside_told guid (OutsideRedacted _ some first) = ap told (bit_there (bit_and header.features redacts) some) ∙ outside_found header.redact guid first
  outside_told guid (OutsideSource _ none first) = ap told (no_bit (bit_and header.features redacts) none) ∙ outside_found header.from_redact guid first
  outside_told guid (OutsideTo none empty) =
      ap told (no_bit (bit_and header.features redacts) none) ∙ ap (λ (stated : List ℕ). first_outside guids stated header.to) empty

pub base_redacted : BaseIsRedacted
base_redacted ask header pool component base snapshot guid fresh takes is outside tells =
    let guids : redacted_for base.snapshot ≡ snapshot.redact = ap (λ (o : Option Snapshot). redacted_for o) is in
    on_base ask header pool component base fresh takes
    ∙ refused (not (is_contained (redacted_for base.snapshot) header)) (plans.NotContained (outside_guid (redacted_for base.snapshot) header)) _
    (not_from_false (is_contained (redacted_for base.snapshot) header)
    (ap (λ (gs : List ℕ). is_contained gs header) guids ∙ not_contained snapshot.redact header outside))
    ∙ ap (λ (gs : List ℕ). Err (plans.NotContained (outside_guid gs header))) guids
    ∙ ap (λ (g : ℕ). Err (plans.NotContained g)) (outside_told snapshot.redact header guid tells)

-- ---- the name and the limits

module _ (ask : RecvAsk) (header : Header) (pool : Pool) (component : List ℕ) where
  abbrev if_free : Base → Option Snapshot → Result RecvPlan PlanFault
  if_free base found = unless (is_some found) (plans.Exists (present.Named (names.Snapshot (ask.target ++ 64 ∷ component)))) (if_room ask.target pool (Ok (Begins component base)))

  untaken : (is : IsUntaken ask header pool component) → recv_plan ask header pool ≡ if_room ask.target pool (Ok (Begins component is.based.base))
  untaken is = on_room ask header pool component is.based.base is.based.fresh is.based.takes is.based.contained is.free

pub name_taken : NameIsTaken
name_taken ask header pool component snapshot is found =
    on_contained ask header pool component is.base is.fresh is.takes is.contained ∙ ap (if_free ask header pool component is.base) found

pub partials_full : PartialsAreFull
partials_full ask header pool component is full =
    let last : Result RecvPlan PlanFault = Ok (Begins component is.based.base) in
    untaken ask header pool component is ∙ to_partials ask.target pool last
    ∙ refused (nat_lt 16 (length pool.partials + 1)) (plans.Limit quantities.Partials 16) (datasets_left ask.target pool last) (lt-ltb 16 (length pool.partials + 1) (omega (arith, full)))

pub targets_full : TargetsAreFull
targets_full ask header pool component is few absent full =
    let last : Result RecvPlan PlanFault = Ok (Begins component is.based.base) in
    let one : new_datasets ask.target pool ≡ 1 = ap (λ (o : Option Dataset). if is_some o then 0 else 1) absent in
    untaken ask header pool component is ∙ to_datasets ask.target pool last few
    ∙ refused (nat_lt 256 (count_datasets pool + new_datasets ask.target pool)) (plans.Limit quantities.Datasets 256) (snapshots_left ask.target pool last)
    (lt-ltb 256 (count_datasets pool + new_datasets ask.target pool) (rw one (omega (arith, full))))

pub receives_full : ReceivesAreFull
receives_full ask header pool component is few keeps full =
    let last : Result RecvPlan PlanFault = Ok (Begins component is.based.base) in
    untaken ask header pool component is ∙ to_snapshots ask.target pool last few keeps
    ∙ refused (nat_lt 1024 (length pool.snapshots + (length pool.partials + 1))) (plans.Limit quantities.Snapshots 1024) last
    (lt-ltb 1024 (length pool.snapshots + (length pool.partials + 1)) (omega (arith, full)))
