-- The plan of a receive, step by step.
use Rattle.std.proofs.Common.{◌≡◌, ◌≢◌, ℕ, ◌+◌, Bool, true, not, ◌&&◌, ◌||◌, ◌==◌, List, Option, Some, None, is_some, Result, Ok, bit_and, if◌then◌else◌, refl, ap, ◌∙◌, find}
use Rattle.std.specs.Option.{ok_or, option_map_or}
use Rattle.std.proofs.lemmas.Bool.{and_left, and_right, eq-eqb, eqb-true, ne_eqb, not_from_false, not_from_true, or_from}
use Rattle.zst_names.specs.Names.{component_of}
use Rattle.zst_model.specs.declared.refusals.faults.Lack.TheVariants as lacks
use Rattle.zst_model.specs.declared.refusals.subjects.Name.TheVariants as names
use Rattle.zst_model.specs.declared.refusals.subjects.PresentSubject.TheVariants as present
use Rattle.zst_model.specs.declared.refusals.plan_fault.PlanFault.{PlanFault}
use Rattle.zst_model.specs.declared.refusals.plan_fault.PlanFault.TheVariants as plans
use Rattle.zst_model.specs.declared.sends.header.Header.{Header}
use Rattle.zst_model.specs.pools.Pool.{Pool, Dataset, Snapshot, Partial, IsNamed, dataset_named, dataset_of_snapshot, partial_of}
use Rattle.zst_model.specs.sends.Features.{resuming}
use Rattle.zst_model.specs.sends.Headers.{free_records}
use Rattle.zst_model.specs.sends.SendPlan.{absent, kind_of}
use Rattle.zst_model.specs.states.AppliedItems.{unless, ◌>>=◌}
use Rattle.zst_laws.proofs.pools.Rows.{named_found}
use Rattle.zst_laws.proofs.pools.StepRefusals.{passed}
use Rattle.zst_plan.specs.AcceptedStreams.{IsCloned, IsFresh, IsInto, IsLatest, IsNew, IsOfOrigin, IsOnto, ComesAs, Asked, Stated, ByGuid, FromOrigin, OverOrigin, nothing}
use Rattle.zst_plan.specs.RecvPlan.{Base, RecvPlan, base_anew, base_by_guid, base_by_head, base_by_origin, base_for, base_onto, behind_mark, cloned_base, component_for, component_stop, fresh_plan, if_frees, if_from_origin, if_kind, if_source, is_component, is_full, is_resumed, latest_of, recv_plan, resumed_plan, stated_component}
use Rattle.zst_plan.specs.declared.receive.RecvAsk.{RecvAsk}
use Rattle.zst_plan.proofs.Components.{passes}
use Rattle.zst_plan.proofs.FirstElements.{first_found}
use Rattle.zst_plan.proofs.PlanTests.{latest_found, no_bit}
use Rattle.zst_plan.proofs.ReceiveChecks.{by_guid, onto_latest, onto_named, with_base}

module _ (ask : RecvAsk) (header : Header) where
  -- ---- the snapshot's name

  abbrev pub from_asked : Option (List ℕ) → Result (List ℕ) PlanFault
  from_asked asked = option_map_or (λ snapshot. Ok (component_of 64 snapshot)) asked (stated_component header.name)

  pub component_comes : {component : List ℕ} → ComesAs ask header component → component_for ask header ≡ Ok component
  component_comes (Asked name is) = ap from_asked is
  component_comes (Stated none is) =
      ap from_asked none
      ∙ passed (not (is_component (component_of 64 header.name))) (plans.BadName (behind_mark header.name + component_stop (component_of 64 header.name))) (Ok (component_of 64 header.name))
      (not_from_true (is_component (component_of 64 header.name)) (passes (component_of 64 header.name) is))

  module _ (pool : Pool) where
    -- ---- the partial state

    abbrev pub of_component : Result (List ℕ) PlanFault → Result RecvPlan PlanFault
    of_component found = found >>= (λ component. option_map_or (resumed_plan header) (partial_of ask.target pool) (fresh_plan ask header component pool))

    pub plan_of_component : recv_plan ask header pool ≡ of_component (component_for ask header)
    unfolding recv_plan
    plan_of_component = refl

    abbrev of_partial : List ℕ → Option Partial → Result RecvPlan PlanFault
    of_partial component found = option_map_or (resumed_plan header) found (fresh_plan ask header component pool)

    -- the plan is that of the target's partial state
    pub on_partial : {component : List ℕ} (partial : Partial) → ComesAs ask header component → partial_of ask.target pool ≡ Some partial
        → recv_plan ask header pool ≡ resumed_plan header partial
    on_partial {component = component} partial comes found = plan_of_component ∙ ap of_component (component_comes comes) ∙ ap (of_partial component) found

    -- or one without it
    pub without_partial : (component : List ℕ) → ComesAs ask header component → partial_of ask.target pool ≡ None
        → recv_plan ask header pool ≡ fresh_plan ask header component pool
    without_partial component comes none = plan_of_component ∙ ap of_component (component_comes comes) ∙ ap (of_partial component) none

    abbrev pub of_base : List ℕ → Result Base PlanFault → Result RecvPlan PlanFault
    of_base component found = found >>= with_base ask header component pool

    pub on_fresh : (component : List ℕ) → IsFresh ask header pool component → recv_plan ask header pool ≡ of_base component (base_for ask header pool)
    on_fresh component fresh =
        without_partial component fresh.comes fresh.no_partial
        ∙ passed (is_resumed header) (plans.NoPartial ask.target) (of_base component (base_for ask header pool)) (no_bit (bit_and header.features resuming) fresh.plain)

    -- ---- the base

    abbrev of_target : Option Dataset → Result Base PlanFault
    of_target found = option_map_or (base_onto ask header pool) found (base_anew ask header pool)

    -- of a dataset that is there
    pub named_there : (dataset : Dataset) → dataset_named ask.target pool ≡ Some dataset → dataset.name ≡ ask.target
    named_there dataset there = (named_found (λ (d : Dataset). d.name) ask.target pool.datasets dataset there).1

    abbrev pub of_latest : Dataset → Option Snapshot → Result Base PlanFault
    of_latest dataset found = ok_or found (plans.NotLatest 0 header.from) >>= onto_latest header ask.force pool dataset

    abbrev if_made : Bool → Dataset → Result Base PlanFault
    if_made makes dataset = unless makes (plans.Exists (present.Named (names.Dataset ask.target))) (of_latest dataset (latest_of ask.target pool))

    pub onto_target : (dataset : Dataset) → dataset_named ask.target pool ≡ Some dataset → base_for ask header pool ≡ if_made (is_full header || is_some ask.origin) dataset
    onto_target dataset there = ap of_target there ∙ onto_named ask header pool dataset ask.target (named_there dataset there)

    pub into_target : (dataset : Dataset) → IsInto ask header pool dataset → base_for ask header pool ≡ of_latest dataset (latest_of ask.target pool)
    into_target dataset is =
        onto_target dataset is.there
        ∙ ap (λ (b : Bool). if_made b dataset)
        (or_from (is_full header) (is_some ask.origin) (ne_eqb header.from 0 is.increment) (ap (λ (o : Option (List ℕ)). is_some o) is.unasked))

    -- from its latest snapshot
    pub from_latest : (dataset : Dataset) (latest : Snapshot) → IsNamed pool → IsInto ask header pool dataset → IsLatest pool ask.target latest
        → base_for ask header pool ≡ onto_latest header ask.force pool dataset latest
    from_latest dataset latest named is last = into_target dataset is ∙ ap (of_latest dataset) (latest_found pool named ask.target latest last)

    abbrev of_kind : Dataset → Snapshot → Result Base PlanFault
    of_kind dataset latest = if_kind dataset.kind header (base_by_head ask.force dataset latest pool)

    pub of_source : (dataset : Dataset) (latest : Snapshot) → IsNamed pool → IsInto ask header pool dataset → IsLatest pool ask.target latest → latest.guid ≡ header.from
        → base_for ask header pool ≡ if_kind dataset.kind header (base_by_head ask.force dataset latest pool)
    of_source dataset latest named is last same =
        from_latest dataset latest named is last
        ∙ passed (not (latest.guid == header.from)) (plans.NotLatest latest.guid header.from) (of_kind dataset latest)
        (not_from_true (latest.guid == header.from) (eq-eqb latest.guid header.from same))

    -- E19, and what comes behind it
    pub same_kind : {A : Type 0} (kind : ℕ) (rest : Result A PlanFault) → kind ≡ header.kind → if_kind kind header rest ≡ rest
    same_kind kind rest same = passed (not (kind == header.kind)) (plans.Unsupported lacks.Kind) rest (not_from_true (kind == header.kind) (eq-eqb kind header.kind same))

    pub other_kind : (kind : ℕ) → kind ≢ header.kind → not (kind == header.kind) ≡ true
    other_kind kind differs = not_from_false (kind == header.kind) (ne_eqb kind header.kind differs)

    pub by_head : (dataset : Dataset) (latest : Snapshot) → IsNamed pool → IsOnto ask header pool dataset latest
        → base_for ask header pool ≡ base_by_head ask.force dataset latest pool
    by_head dataset latest named is =
        of_source dataset latest named is.into is.is_latest is.source ∙ same_kind dataset.kind (base_by_head ask.force dataset latest pool) is.kind

    -- of one that isn't there
    abbrev of_origin : Option (List ℕ) → Result Base PlanFault
    of_origin asked = option_map_or (base_by_origin header pool) asked (base_by_guid header pool)

    pub of_new : IsNew ask pool → base_for ask header pool ≡ base_by_guid header pool
    of_new is = ap of_target is.absent ∙ ap of_origin is.unasked

    pub of_asked : (name : List ℕ) → dataset_named ask.target pool ≡ None → ask.origin ≡ Some name → base_for ask header pool ≡ base_by_origin header pool name
    of_asked name none asked = ap of_target none ∙ ap of_origin asked

    abbrev if_taken : Bool → Result Base PlanFault → Result Base PlanFault
    if_taken full other = if full then Ok nothing else other

    abbrev pub of_guid : Option Snapshot → Result Base PlanFault
    of_guid found = ok_or found (plans.NoOrigin header.from) >>= cloned_base header pool

    pub of_full : header.from ≡ 0 → base_by_guid header pool ≡ Ok nothing
    of_full zero = ap (λ (b : Bool). if_taken b (of_guid (find (λ snapshot. snapshot.guid == header.from) pool.snapshots))) (eq-eqb header.from 0 zero)

    pub of_increment : header.from ≢ 0 → base_by_guid header pool ≡ of_guid (find (λ snapshot. snapshot.guid == header.from) pool.snapshots)
    of_increment some = by_guid header pool (ne_eqb header.from 0 some)

    -- the origin that is asked for
    abbrev pub with_frees : Snapshot → Result Base PlanFault
    with_frees origin = if_frees header (cloned_base header pool origin)

    abbrev pub of_named : List ℕ → Option Snapshot → Result Base PlanFault
    of_named name found = ok_or found (absent (names.Snapshot name)) >>= (λ origin. if_from_origin origin header (with_frees origin))

    pub at_origin : (origin : Snapshot) → IsOfOrigin ask pool origin → base_for ask header pool ≡ if_from_origin origin header (with_frees origin)
    at_origin origin is = of_asked is.name is.absent is.asked ∙ ap (of_named is.name) is.found

    pub at_increment : (origin : Snapshot) → IsOfOrigin ask pool origin → header.from ≢ 0 → base_for ask header pool ≡ if_source origin.guid header (with_frees origin)
    at_increment origin is some =
        at_origin origin is ∙ ap (λ (b : Bool). if b then with_frees origin else if_source origin.guid header (with_frees origin)) (ne_eqb header.from 0 some)

    pub at_full : (origin : Snapshot) → IsOfOrigin ask pool origin → header.from ≡ 0 → base_for ask header pool ≡ with_frees origin
    at_full origin is zero =
        at_origin origin is ∙ ap (λ (b : Bool). if b then with_frees origin else if_source origin.guid header (with_frees origin)) (eq-eqb header.from 0 zero)

    -- what a new dataset is a clone of, but for its kind
    pub clones : (snapshot : Snapshot) → IsCloned ask header pool snapshot → base_for ask header pool ≡ cloned_base header pool snapshot
    clones snapshot (ByGuid new some first) =
        of_new new ∙ of_increment some
        ∙ ap of_guid
        (first_found (λ s. s.guid == header.from) (λ (s : Snapshot). s.guid ≡ header.from) pool.snapshots (λ s k e. eqb-true s.guid header.from e) snapshot
        (eq-eqb snapshot.guid header.from first.holds) first)
    clones snapshot (FromOrigin is some same) =
        at_increment snapshot is some
        ∙ passed (not (snapshot.guid == header.from)) (plans.NotLatest snapshot.guid header.from) (with_frees snapshot)
        (not_from_true (snapshot.guid == header.from) (eq-eqb snapshot.guid header.from same))
        ∙ passed (is_full header && bit_and header.flags free_records == 0) (plans.Unsupported lacks.FullWithoutFrees) (cloned_base header pool snapshot)
        (and_left (is_full header) (bit_and header.flags free_records == 0) (ne_eqb header.from 0 some))
    clones snapshot (OverOrigin is zero frees) =
        at_full snapshot is zero
        ∙ passed (is_full header && bit_and header.flags free_records == 0) (plans.Unsupported lacks.FullWithoutFrees) (cloned_base header pool snapshot)
        (and_right (is_full header) (bit_and header.flags free_records == 0) (ne_eqb (bit_and header.flags free_records) 0 frees))

-- the kind of a snapshot is that of its dataset
pub kind_found : (pool : Pool) (snapshot : Snapshot) (dataset : Dataset) → dataset_named (dataset_of_snapshot snapshot) pool ≡ Some dataset → kind_of pool snapshot ≡ dataset.kind
kind_found pool snapshot dataset found = ap (λ (o : Option Dataset). option_map_or (λ d. d.kind) o 0) found
