-- What a receive begins with.
use Rattle.std.proofs.Common.{◌≡◌, ℕ, ◌+◌, Bool, true, false, not, List, [], ◌∷◌, length, nat_lt, Option, Some, None, is_some, Result, Ok, Err, refl, sym, ap, ◌∙◌, subst, cond, ◌==◌, ◌&&◌, ◌||◌, ◌<◌, ◌≤◌, ◌^◌, find, arith}
use Rattle.std.specs.Prelude.{Contains, bytes_eq, IfSome, bit_and}
use Rattle.std.specs.Option.{ok_or, option_map_or}
use Rattle.std.proofs.lemmas.List.Elements.{All-contains}
use Rattle.std.proofs.lemmas.Bool.{and_parts, ltb-false, not-false, true≢false}
use Rattle.std.proofs.lemmas.Bool.Decides.{nat_tests}
use Rattle.std.proofs.lemmas.Option.{same_Some}
use Rattle.zst_model.proofs.InsertedLaws.{contains_first, contains_later}
use Rattle.zst_model.specs.declared.refusals.faults.Lack.TheVariants as lacks
use Rattle.zst_model.specs.declared.refusals.faults.Quantity.TheVariants as quantities
use Rattle.zst_model.specs.declared.refusals.subjects.Holder.TheVariants as holders
use Rattle.zst_model.specs.declared.refusals.subjects.Name.TheVariants as names
use Rattle.zst_model.specs.declared.refusals.subjects.PresentSubject.TheVariants as present
use Rattle.zst_model.specs.declared.refusals.plan_fault.PlanFault.{PlanFault}
use Rattle.zst_model.specs.declared.refusals.plan_fault.PlanFault.TheVariants as plans
use Rattle.zst_model.specs.declared.sends.header.Header.{Header}
use Rattle.zst_model.specs.fields.Guids.{IsGuidSet}
use Rattle.zst_model.specs.pools.Limits.{most_datasets, most_partials, most_snapshots}
use Rattle.zst_model.specs.pools.Pool.{Pool, IsPool, IsGuid, Dataset, Snapshot, Bookmark, Partial, dataset_named, snapshot_named, partial_of, dataset_of_snapshot, dataset_of_bookmark, untouched}
use Rattle.zst_model.specs.pools.Step.{count_datasets}
use Rattle.zst_model.specs.sends.Headers.{free_records}
use Rattle.zst_model.specs.sends.SendPlan.{absent, find_snapshot, kind_of}
use Rattle.zst_model.specs.states.AppliedItems.{unless, ◌>>=◌}
use Rattle.zst_model.specs.states.State.{IsState, no_objects}
use Rattle.zst_model.proofs.Options.{none_there}
use Rattle.zst_model.proofs.FoundElements.{found_passes}
use Rattle.zst_model.proofs.FilteredLists.{filter_contains}
use Rattle.zst_model.proofs.Results.{bind_ok, ok_parts, unless_ok}
use Rattle.zst_plan.specs.RecvPlan as planning
use Rattle.zst_plan.specs.RecvPlan.{Base, RecvPlan, Begins, Resumes, base_anew, base_by_guid, base_by_head, base_by_origin, base_for, base_onto, cloned_base, component_for, find_latest, fresh_plan, if_contained, if_frees, if_from_origin, if_increment, if_kind, if_new, if_plain, if_room, if_source, if_within, is_contained, is_dated_after, is_full, is_resumed, last_of, latest_of, new_datasets, recv_plan, redacted_for, resumed_plan, rolled_back, snapshot_name, wrong_resume}
use Rattle.zst_plan.specs.declared.receive.RecvAsk.{RecvAsk}
use Rattle.zst_replication.specs.Outcomes.{base_objects}

-- there is room for one partial state more: the pool then is within its limits
pub record IsRoomy (target : List ℕ) (pool : Pool) : Type 0 where
  pub partials : length pool.partials + 1 ≤ most_partials
  pub datasets : count_datasets pool + new_datasets target pool ≤ most_datasets
  pub snapshots : length pool.snapshots + (length pool.partials + 1) ≤ most_snapshots

-- the plan of a target without a partial state
pub record Fresh (ask : RecvAsk) (header : Header) (pool : Pool) (plan : RecvPlan) : Type 0 where
  pub component : List ℕ
  pub named : component_for ask header ≡ Ok component
  pub base : Base
  pub based : base_for ask header pool ≡ Ok base
  pub contained : is_contained (redacted_for base.snapshot) header ≡ true
  pub new : snapshot_named (snapshot_name ask.target component) pool ≡ None
  pub room : IsRoomy ask.target pool
  pub plan_is : plan ≡ Begins component base

roomy : (ask : RecvAsk) (pool : Pool) (plan last : RecvPlan) → if_room ask.target pool (Ok last) ≡ Ok plan → IsRoomy ask.target pool × (last ≡ plan)
roomy ask pool plan last e =
    let third = if_within quantities.Snapshots most_snapshots (length pool.snapshots + (length pool.partials + 1)) (Ok last) in
    let second = if_within quantities.Datasets most_datasets (count_datasets pool + new_datasets ask.target pool) third in
    let a = unless_ok (nat_lt most_partials (length pool.partials + 1)) (plans.Limit quantities.Partials most_partials) second plan e in
    let b = unless_ok (nat_lt most_datasets (count_datasets pool + new_datasets ask.target pool)) (plans.Limit quantities.Datasets most_datasets) third plan a.1 in
    let c = unless_ok (nat_lt most_snapshots (length pool.snapshots + (length pool.partials + 1))) (plans.Limit quantities.Snapshots most_snapshots) (Ok last) plan b.1 in (
      record {
        partials = ltb-false most_partials (length pool.partials + 1) a.0;
        datasets = ltb-false most_datasets (count_datasets pool + new_datasets ask.target pool) b.0;
        snapshots = ltb-false most_snapshots (length pool.snapshots + (length pool.partials + 1)) c.0;
      },
      ok_parts last plan c.1,
    )

fresh : (ask : RecvAsk) (header : Header) (pool : Pool) (plan : RecvPlan) (component : List ℕ) → component_for ask header ≡ Ok component → fresh_plan ask header component pool ≡ Ok plan → Fresh ask header pool plan
fresh ask header pool plan component named e =
    let name = snapshot_name ask.target component in
    let roomed : Base → Result RecvPlan PlanFault = λ base. if_room ask.target pool (Ok (Begins component base)) in
    let newed : Base → Result RecvPlan PlanFault = λ base. if_new name pool (roomed base) in
    let next : Base → Result RecvPlan PlanFault = λ base. if_contained base header (newed base) in
    let plain = unless_ok (planning.is_resumed header) (plans.NoPartial ask.target) (base_for ask header pool >>= next) plan e in
    let found = bind_ok (base_for ask header pool) next plan plain.1 in
    let inside = unless_ok (not (planning.is_contained (planning.redacted_for found.0.snapshot) header)) (plans.NotContained (planning.outside_guid (planning.redacted_for found.0.snapshot) header)) (newed found.0) plan found.2 in
    let new = unless_ok (is_some (snapshot_named name pool)) (plans.Exists (present.Named (names.Snapshot name))) (roomed found.0) plan inside.1 in
    let room = roomy ask pool plan (Begins component found.0) new.1 in
    record {
      component = component;
      named = named;
      base = found.0;
      based = found.1;
      contained = not-false (planning.is_contained (planning.redacted_for found.0.snapshot) header) inside.0;
      new = none_there (snapshot_named name pool) new.0;
      room = room.0;
      plan_is = sym room.1;
    }

pub begins_anew : (ask : RecvAsk) (header : Header) (pool : Pool) (plan : RecvPlan) → partial_of ask.target pool ≡ None → recv_plan ask header pool ≡ Ok plan → Fresh ask header pool plan
unfolding recv_plan
begins_anew ask header pool plan none e =
    let next : List ℕ → Result RecvPlan PlanFault = λ component. option_map_or (resumed_plan header) (partial_of ask.target pool) (fresh_plan ask header component pool) in
    let found = bind_ok (component_for ask header) next plan e in
    fresh ask header pool plan found.0 found.1
    (subst (λ (o : Option Partial). option_map_or (resumed_plan header) o (fresh_plan ask header found.0 pool) ≡ Ok plan) none found.2)

-- ---- the base is a snapshot of the pool

last_there : {A : Type 0} (xs : List A) (x : A) → last_of xs ≡ Some x → Contains xs x
last_there [] x e = absurd cc
last_there {A = A} (y ∷ []) x e = subst (λ (z : A). Contains (y ∷ []) z) (same_Some y x e) (contains_first y [])
last_there (y ∷ z ∷ zs) x e = contains_later y (z ∷ zs) x (last_there (z ∷ zs) x e)

-- the base is a snapshot of the pool, an increment's has its source's guid, and the head goes back only where that was asked
pub record IsGood (ask : RecvAsk) (header : Header) (pool : Pool) (base : Base) : Type 0 where
  pub there : IfSome base.snapshot (λ snapshot. Contains pool.snapshots snapshot)
  pub by_guid : is_full header ≡ false → (snapshot : Snapshot) × (base.snapshot ≡ Some snapshot) × (snapshot.guid ≡ header.from)
  pub rolls : base.rolls ≡ true → ask.force ≡ true

pub or_parts : {A : Type 0} (o : Option A) (fault : PlanFault) (x : A) → ok_or o fault ≡ Ok x → o ≡ Some x
or_parts None fault x e = absurd cc
or_parts (Some y) fault x e = ap (λ y. Some y) (ok_parts y x e)

pub same_number : (a b : ℕ) → (a == b) ≡ true → a ≡ b
same_number a b h = grind (arith, nat_tests, h)

module _ (ask : RecvAsk) (header : Header) (pool : Pool) where
  from_there : (snapshot : Snapshot) (rolls : Bool) (base : Base) → Contains pool.snapshots snapshot → (is_full header ≡ false → snapshot.guid ≡ header.from) → (rolls ≡ true → ask.force ≡ true)
      → ◌≡◌ {A = Result Base PlanFault} (Ok (record { snapshot = Some snapshot; rolls = rolls })) (Ok base) → IsGood ask header pool base
  from_there snapshot rolls base there guid forced e =
      subst (λ (b : Base). IsGood ask header pool b) (ok_parts _ _ e) (record { there = there; by_guid = λ full. (snapshot, refl, guid full); rolls = forced })

  headed : (dataset : Dataset) (latest : Snapshot) (base : Base) → Contains pool.snapshots latest → (is_full header ≡ false → latest.guid ≡ header.from)
      → base_by_head ask.force dataset latest pool ≡ Ok base → IsGood ask header pool base
  headed dataset latest base there guid e = go (is_dated_after latest.number dataset.head) e
    where
      held : (o : Option Bookmark) → ask.force ≡ true
          → option_map_or (λ bookmark. Err (plans.Busy (holders.Bookmark bookmark.name))) o (Ok (record { snapshot = Some latest; rolls = true })) ≡ Ok base → IsGood ask header pool base
      held None force e = from_there latest true base there guid (λ r. force) e
      held (Some bookmark) force e = absurd cc

      go : (t : Bool) → cond t (unless (not ask.force) (plans.Modified dataset.name) (rolled_back dataset latest pool)) (Ok (record { snapshot = Some latest; rolls = false })) ≡ Ok base → IsGood ask header pool base
      go true e =
          let forced = unless_ok (not ask.force) (plans.Modified dataset.name) (rolled_back dataset latest pool) base e in
          held (find (λ bookmark. bytes_eq (dataset_of_bookmark bookmark) dataset.name && nat_lt latest.number bookmark.number) pool.bookmarks) (not-false ask.force forced.0) forced.1
      go false e = from_there latest false base there guid (λ r. absurd cc) e

  onto : (dataset : Dataset) (base : Base) → base_onto ask header pool dataset ≡ Ok base → IsGood ask header pool base
  onto dataset base e =
      let own : Snapshot → Result Base PlanFault = λ latest. base_by_head ask.force dataset latest pool in
      let kinded : Snapshot → Result Base PlanFault = λ latest. if_kind dataset.kind header (own latest) in
      let sourced : Snapshot → Result Base PlanFault = λ latest. if_source latest.guid header (kinded latest) in
      let grown = unless_ok (planning.is_full header || is_some ask.origin) (plans.Exists (present.Named (names.Dataset dataset.name))) (find_latest dataset.name header pool >>= sourced) base e in
      let found = bind_ok (find_latest dataset.name header pool) sourced base grown.1 in
      let latest = or_parts (latest_of dataset.name pool) (plans.NotLatest 0 header.from) found.0 found.1 in
      let source = unless_ok (not (found.0.guid == header.from)) (plans.NotLatest found.0.guid header.from) (kinded found.0) base found.2 in
      let kind = unless_ok (not (dataset.kind == header.kind)) (plans.Unsupported lacks.Kind) (own found.0) base source.1 in
      headed dataset found.0 base (filter_contains (λ snapshot. bytes_eq (dataset_of_snapshot snapshot) dataset.name) pool.snapshots found.0 (last_there _ found.0 latest))
      (λ full. same_number found.0.guid header.from (not-false (found.0.guid == header.from) source.0)) kind.1

  cloned : (snapshot : Snapshot) (base : Base) → Contains pool.snapshots snapshot → (is_full header ≡ false → snapshot.guid ≡ header.from) → cloned_base header pool snapshot ≡ Ok base → IsGood ask header pool base
  cloned snapshot base there guid e =
      let kind = unless_ok (not (kind_of pool snapshot == header.kind)) (plans.Unsupported lacks.Kind) (Ok (record { snapshot = Some snapshot; rolls = false })) base e in
      from_there snapshot false base there guid (λ r. absurd cc) kind.1

  guided : (base : Base) → base_by_guid header pool ≡ Ok base → IsGood ask header pool base
  guided base e = go (is_full header) refl e
    where
      go : (t : Bool) → is_full header ≡ t → cond t (Ok (record { snapshot = None; rolls = false }))
          (ok_or (find (λ snapshot. snapshot.guid == header.from) pool.snapshots) (plans.NoOrigin header.from) >>= cloned_base header pool) ≡ Ok base → IsGood ask header pool base
      go true full e = subst (λ (b : Base). IsGood ask header pool b) (ok_parts _ _ e) (record { there = tt; by_guid = λ f. absurd (true≢false (sym full ∙ f)); rolls = λ r. absurd cc })
      go false full e =
          let found = bind_ok (ok_or (find (λ snapshot. snapshot.guid == header.from) pool.snapshots) (plans.NoOrigin header.from)) (cloned_base header pool) base e in
          let there = found_passes (λ snapshot. snapshot.guid == header.from) pool.snapshots found.0 (or_parts _ (plans.NoOrigin header.from) found.0 found.1) in
          cloned found.0 base there.0 (λ f. same_number found.0.guid header.from there.1) found.2

  from_origin : (t : Bool) (snapshot : Snapshot) (rest : Result Base PlanFault) (base : Base) → cond t rest (if_source snapshot.guid header rest) ≡ Ok base → (rest ≡ Ok base) × (t ≡ false → snapshot.guid ≡ header.from)
  from_origin true snapshot rest base e = (e, λ f. absurd cc)
  from_origin false snapshot rest base e =
      let source = unless_ok (not (snapshot.guid == header.from)) (plans.NotLatest snapshot.guid header.from) rest base e in
      (source.1, λ f. same_number snapshot.guid header.from (not-false (snapshot.guid == header.from) source.0))

  asked : (name : List ℕ) (base : Base) → base_by_origin header pool name ≡ Ok base → IsGood ask header pool base
  asked name base e =
      let freed : Snapshot → Result Base PlanFault = λ snapshot. if_frees header (cloned_base header pool snapshot) in
      let found = bind_ok (find_snapshot name pool) (λ snapshot. if_from_origin snapshot header (freed snapshot)) base e in
      let there = found_passes (λ snapshot. bytes_eq snapshot.name name) pool.snapshots found.0 (or_parts _ (absent (names.Snapshot name)) found.0 found.1) in
      let from = from_origin (is_full header) found.0 (freed found.0) base found.2 in
      let frees = unless_ok (is_full header && bit_and header.flags free_records == 0) (plans.Unsupported lacks.FullWithoutFrees) (cloned_base header pool found.0) base from.0 in
      cloned found.0 base there.0 from.1 frees.1

  anew : (base : Base) → base_anew ask header pool ≡ Ok base → IsGood ask header pool base
  anew base e = go ask.origin e
    where
      go : (o : Option (List ℕ)) → option_map_or (base_by_origin header pool) o (base_by_guid header pool) ≡ Ok base → IsGood ask header pool base
      go None e = guided base e
      go (Some name) e = asked name base e

  pub base_there : (base : Base) → base_for ask header pool ≡ Ok base → IsGood ask header pool base
  base_there base e = go (dataset_named ask.target pool) e
    where
      go : (o : Option Dataset) → option_map_or (base_onto ask header pool) o (base_anew ask header pool) ≡ Ok base → IsGood ask header pool base
      go None e = anew base e
      go (Some dataset) e = onto dataset base e

-- so what a receive begins with is a lawful state
nothing_lawful : IsState no_objects
nothing_lawful = record { zero = refl; bounded = λ k b. refl; objects = λ k. tt }

pub lawful_base : (ask : RecvAsk) (header : Header) (pool : Pool) (base : Base) → IsPool pool → base_for ask header pool ≡ Ok base → IsState (base_objects base).state
lawful_base ask header pool base lawful based = go base.snapshot (base_there ask header pool base based).there
  where
    go : (o : Option Snapshot) → IfSome o (λ snapshot. Contains pool.snapshots snapshot) → IsState (option_map_or (λ snapshot. snapshot.objects) o untouched).state
    go None there = nothing_lawful
    go (Some snapshot) there =
        (All-contains (λ (s : Snapshot). IsGuid s.guid × IsGuidSet s.redact × IsState s.objects.state × (s.time < 2 ^ 64)) pool.snapshots snapshot lawful.snapshots there).2

-- ---- a target with a partial state

resumed_is : (header : Header) (old : Partial) (plan : RecvPlan) → resumed_plan header old ≡ Ok plan → plan ≡ Resumes old
resumed_is header old plan e =
    let going = unless_ok (not (is_resumed header)) (plans.PartialExists old.target) _ plan e in
    let right = unless_ok (not (planning.goes_on old header)) (wrong_resume old header) (Ok (Resumes old)) plan going.1 in
    sym (ok_parts (Resumes old) plan right.1)

-- it is planned by that alone
pub resumed_ok : (ask : RecvAsk) (header : Header) (pool : Pool) (old : Partial) (plan : RecvPlan) → partial_of ask.target pool ≡ Some old → recv_plan ask header pool ≡ Ok plan → resumed_plan header old ≡ Ok plan
unfolding recv_plan
resumed_ok ask header pool old plan found e =
    let next : List ℕ → Result RecvPlan PlanFault = λ component. option_map_or (resumed_plan header) (partial_of ask.target pool) (fresh_plan ask header component pool) in
    let named = bind_ok (component_for ask header) next plan e in
    subst (λ (o : Option Partial). option_map_or (resumed_plan header) o (fresh_plan ask header named.0 pool) ≡ Ok plan) found named.2

pub resumes : (ask : RecvAsk) (header : Header) (pool : Pool) (old : Partial) (plan : RecvPlan) → partial_of ask.target pool ≡ Some old → recv_plan ask header pool ≡ Ok plan → plan ≡ Resumes old
resumes ask header pool old plan found e = resumed_is header old plan (resumed_ok ask header pool old plan found e)

-- and the stream has its guids
pub resumed_guids : (header : Header) (old : Partial) (plan : RecvPlan) → resumed_plan header old ≡ Ok plan → (old.header.to ≡ header.to) × (old.header.from ≡ header.from)
resumed_guids header old plan e =
    let going = unless_ok (not (is_resumed header)) (plans.PartialExists old.target) _ plan e in
    let right = unless_ok (not (planning.goes_on old header)) (wrong_resume old header) (Ok (Resumes old)) plan going.1 in
    let all = and_parts _ _ (not-false (planning.goes_on old header) right.0) in
    let guids = and_parts (old.header.to == header.to) (old.header.from == header.from) all.0 in
    (same_number old.header.to header.to guids.0, same_number old.header.from header.from guids.1)
