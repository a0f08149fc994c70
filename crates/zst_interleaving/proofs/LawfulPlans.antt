-- What a receive begins with fits the lawful pool that it finds.
use Rattle.std.proofs.Common.{inl, inr, ◌≡◌, ℕ, zero, suc, ◌+◌, ◌<◌, ◌≤◌, min, Bool, true, false, not, ◌&&◌, ◌||◌, ◌==◌, nat_lt, List, [], ◌∷◌, ◌++◌, length, take, Option, Some, None, IfSome, is_some, Result, Ok, Err, Contains, find, refl, sym, ap, ◌∙◌, subst, cond, arith, length-take-le}
use Rattle.std.specs.Prelude.{bytes_eq, bit_and}
use Rattle.std.specs.List.{list_all, position_or_len}
use Rattle.std.specs.Option.{ok_or, option_map, option_map_or}
use Rattle.std.proofs.Math.Seq.{take-length}
use Rattle.std.proofs.lemmas.Bool.{and_parts, eqb-true, not-false, true≢false}
use Rattle.std.proofs.lemmas.Bool.Decides.{eqb_tells, nat_tests}
use Rattle.std.proofs.lemmas.List.Elements.{All-contains}
use Rattle.zst_names.specs.Names.{IsComponent, IsDataset, IsSnapshot, component_of, is_component_byte}
use Rattle.zst_model.specs.declared.refusals.faults.Lack.TheVariants as lacks
use Rattle.zst_model.specs.declared.refusals.subjects.Holder.TheVariants as holders
use Rattle.zst_model.specs.declared.refusals.subjects.Name.TheVariants as names
use Rattle.zst_model.specs.declared.refusals.subjects.PresentSubject.TheVariants as present
use Rattle.zst_model.specs.declared.refusals.plan_fault.PlanFault.{PlanFault}
use Rattle.zst_model.specs.declared.refusals.plan_fault.PlanFault.TheVariants as plans
use Rattle.zst_model.specs.declared.sends.header.Header.{Header}
use Rattle.zst_model.specs.declared.refusals.faults.Quantity.TheVariants as quantities
use Rattle.zst_model.specs.pools.Limits.{most_datasets, most_partials, most_snapshots}
use Rattle.zst_model.specs.pools.Step.{count_datasets}
use Rattle.zst_model.specs.pools.Pool.{Pool, IsPool, IsStated, Dataset, Snapshot, Bookmark, Partial, HasSnapshot, dataset_named, snapshot_named, partial_of, dataset_of_snapshot, dataset_of_bookmark}
use Rattle.zst_model.specs.sends.Features.{resuming}
use Rattle.zst_model.specs.sends.Headers.{free_records}
use Rattle.zst_model.specs.sends.SendPlan.{absent, find_snapshot, kind_of}
use Rattle.zst_model.specs.states.AppliedItems.{unless, ◌>>=◌}
use Rattle.zst_model.specs.states.State.{IsState}
use Rattle.zst_model.proofs.InsertedLaws.{contains_first, contains_later}
use Rattle.zst_model.proofs.FilteredLists.{filter_contains}
use Rattle.zst_model.proofs.FoundElements.{found_passes, none_passes, own_target}
use Rattle.zst_model.proofs.OrderLaws.{bytes_same}
use Rattle.zst_model.proofs.Results.{bind_ok, ok_parts, unless_ok}
use Rattle.zst_plan.specs.RecvPlan as planning
use Rattle.zst_plan.specs.RecvPlan.{Base, RecvPlan, Begins, Resumes, base_anew, base_by_guid, base_by_head, base_by_origin, base_for, base_onto, behind_mark, cloned_base, component_for, component_stop, find_latest, fresh_plan, if_contained, if_frees, if_from_origin, if_kind, if_new, if_room, if_source, if_within, new_datasets, is_component, is_dated_after, is_full, last_of, latest_of, recv_plan, resumed_plan, rolled_back, snapshot_name, stated_component, wrong_resume}
use Rattle.zst_plan.specs.declared.receive.RecvAsk.{RecvAsk}
use Rattle.zst_stream.specs.PassedRecords.{StatesBegin}
use Rattle.zst_recv.specs.ReceiveSteps.{Stage, Waits, Lives, Ends, opened}
use Rattle.zst_replication.proofs.FreshReceives.{began_in}
use Rattle.zst_interleaving.specs.LawfulFeeds.{IsAsk}
use Rattle.zst_interleaving.proofs.LawfulCommits.{IsFitting, IsOneOf}

-- ---- the component

all_before : (text : List ℕ) (q : ℕ) → q ≤ position_or_len (λ byte. not (is_component_byte byte)) text → list_all is_component_byte (take q text) ≡ true
all_before [] zero le = refl
all_before [] (suc q) le = refl
all_before (byte ∷ text) zero le = refl
all_before (byte ∷ text) (suc q) le = go (is_component_byte byte) refl (all_before text q)
  where
    go : (b : Bool) → is_component_byte byte ≡ b → (q ≤ position_or_len (λ byte. not (is_component_byte byte)) text → list_all is_component_byte (take q text) ≡ true)
        → (is_component_byte byte && list_all is_component_byte (take q text)) ≡ true
    go true e later = rw e (later (omega (arith, rw e at le)))
    go false e later = absurd (omega (arith, rw e at le))

-- a text up to where no component can go on is one
up_to_stop : (text : List ℕ) (q : ℕ) → 0 < q → q ≤ length text → q ≤ component_stop text → IsComponent (take q text)
up_to_stop text zero some inside le = absurd (omega (arith, some))
up_to_stop [] (suc q) some inside le = absurd (omega (arith, inside))
up_to_stop (byte ∷ text) (suc q) some inside le = elim (eqb_tells byte 45) [
  | inl e ↦ absurd (omega (arith, rw e.0 at le))
  | inr e ↦
      let short : suc q ≤ min 64 (position_or_len (λ byte. not (is_component_byte byte)) (byte ∷ text)) = rw e.0 at le in
      let long = length-take-le (suc q) (byte ∷ text) inside in
      record {
        some = omega (arith, long);
        short = omega (arith, long, short);
        bytes = all_before (byte ∷ text) (suc q) (omega (arith, short));
        first = e.1;
      }
]

tested : (text : List ℕ) → is_component text ≡ true → IsComponent text
tested text h =
    let both = and_parts (nat_lt 0 (length text)) (component_stop text == length text) h in
    let some : 0 < length text = grind (arith, nat_tests, both.0) in
    let whole : component_stop text ≡ length text = eqb-true (component_stop text) (length text) both.1 in
    subst IsComponent (take-length text) (up_to_stop text (length text) some (omega arith) (omega (arith, whole)))

-- the snapshot's component is one
comes_as : (ask : RecvAsk) (header : Header) (component : List ℕ) → IfSome ask.snap IsSnapshot → component_for ask header ≡ Ok component → IsComponent component
comes_as ask header component names e = go ask.snap names e
  where
    go : (o : Option (List ℕ)) → IfSome o IsSnapshot → option_map_or (λ snapshot. Ok (component_of 64 snapshot)) o (stated_component header.name) ≡ Ok component → IsComponent component
    go None is e =
        let stated = component_of 64 header.name in
        let found = unless_ok (not (is_component stated)) (plans.BadName (behind_mark header.name + component_stop stated)) (Ok stated) component e in
        subst IsComponent (ok_parts stated component found.1) (tested stated (not-false (is_component stated) found.0))
    go (Some name) is e = subst IsComponent (ok_parts (component_of 64 name) component e) is.1

-- ---- the base

abbrev IsThere : Pool → Base → Type 0
IsThere pool base = IfSome base.snapshot (Contains pool.snapshots)

last_there : {A : Type 0} (xs : List A) (x : A) → last_of xs ≡ Some x → Contains xs x
last_there [] x e = absurd cc
last_there {A = A} (y ∷ []) x e = let same : y ≡ x = cc in subst (λ (z : A). Contains (y ∷ []) z) same (contains_first y [])
last_there (y ∷ z ∷ zs) x e = contains_later y (z ∷ zs) x (last_there (z ∷ zs) x e)

or_parts : {A : Type 0} (o : Option A) (fault : PlanFault) (x : A) → ok_or o fault ≡ Ok x → o ≡ Some x
or_parts None fault x e = absurd cc
or_parts (Some y) fault x e = ap (λ y. Some y) (ok_parts y x e)

-- the base is a snapshot of the pool
module _ (ask : RecvAsk) (header : Header) (pool : Pool) where
  from_there : (snapshot : Snapshot) (rolls : Bool) (base : Base) → Contains pool.snapshots snapshot → ◌≡◌ {A = Result Base PlanFault} (Ok (record { snapshot = Some snapshot; rolls = rolls })) (Ok base) → IsThere pool base
  from_there snapshot rolls base there e = subst (IsThere pool) (ok_parts (record { snapshot = Some snapshot; rolls = rolls }) base e) there

  headed : (dataset : Dataset) (latest : Snapshot) (base : Base) → Contains pool.snapshots latest → base_by_head ask.force dataset latest pool ≡ Ok base → IsThere pool base
  headed dataset latest base there e = go (is_dated_after latest.number dataset.head) e
    where
      held : (o : Option Bookmark) → option_map_or (λ bookmark. Err (plans.Busy (holders.Bookmark bookmark.name))) o (Ok (record { snapshot = Some latest; rolls = true })) ≡ Ok base → IsThere pool base
      held None e = from_there latest true base there e
      held (Some bookmark) e = absurd cc

      go : (t : Bool) → cond t (unless (not ask.force) (plans.Modified dataset.name) (rolled_back dataset latest pool)) (Ok (record { snapshot = Some latest; rolls = false })) ≡ Ok base → IsThere pool base
      go true e =
          let forced = unless_ok (not ask.force) (plans.Modified dataset.name) (rolled_back dataset latest pool) base e in
          held (find (λ bookmark. bytes_eq (dataset_of_bookmark bookmark) dataset.name && nat_lt latest.number bookmark.number) pool.bookmarks) forced.1
      go false e = from_there latest false base there e

  onto : (dataset : Dataset) (base : Base) → base_onto ask header pool dataset ≡ Ok base → IsThere pool base
  onto dataset base e =
      let own : Snapshot → Result Base PlanFault = λ latest. base_by_head ask.force dataset latest pool in
      let kinded : Snapshot → Result Base PlanFault = λ latest. if_kind dataset.kind header (own latest) in
      let sourced : Snapshot → Result Base PlanFault = λ latest. if_source latest.guid header (kinded latest) in
      let grown = unless_ok (planning.is_full header || is_some ask.origin) (plans.Exists (present.Named (names.Dataset dataset.name))) (find_latest dataset.name header pool >>= sourced) base e in
      let found = bind_ok (find_latest dataset.name header pool) sourced base grown.1 in
      let latest = or_parts (latest_of dataset.name pool) (plans.NotLatest 0 header.from) found.0 found.1 in
      let source = unless_ok (not (found.0.guid == header.from)) (plans.NotLatest found.0.guid header.from) (kinded found.0) base found.2 in
      let kind = unless_ok (not (dataset.kind == header.kind)) (plans.Unsupported lacks.Kind) (own found.0) base source.1 in
      headed dataset found.0 base (filter_contains (λ snapshot. bytes_eq (dataset_of_snapshot snapshot) dataset.name) pool.snapshots found.0 (last_there _ found.0 latest)) kind.1

  cloned : (snapshot : Snapshot) (base : Base) → Contains pool.snapshots snapshot → cloned_base header pool snapshot ≡ Ok base → IsThere pool base
  cloned snapshot base there e =
      let kind = unless_ok (not (kind_of pool snapshot == header.kind)) (plans.Unsupported lacks.Kind) (Ok (record { snapshot = Some snapshot; rolls = false })) base e in
      from_there snapshot false base there kind.1

  guided : (base : Base) → base_by_guid header pool ≡ Ok base → IsThere pool base
  guided base e = go (is_full header) e
    where
      go : (t : Bool) → cond t (Ok (record { snapshot = None; rolls = false }))
          (ok_or (find (λ snapshot. snapshot.guid == header.from) pool.snapshots) (plans.NoOrigin header.from) >>= cloned_base header pool) ≡ Ok base → IsThere pool base
      go true e = subst (IsThere pool) (ok_parts (record { snapshot = None; rolls = false }) base e) tt
      go false e =
          let found = bind_ok (ok_or (find (λ snapshot. snapshot.guid == header.from) pool.snapshots) (plans.NoOrigin header.from)) (cloned_base header pool) base e in
          let there = found_passes (λ snapshot. snapshot.guid == header.from) pool.snapshots found.0 (or_parts _ (plans.NoOrigin header.from) found.0 found.1) in
          cloned found.0 base there.0 found.2

  from_origin : (t : Bool) (snapshot : Snapshot) (rest : Result Base PlanFault) (base : Base) → cond t rest (if_source snapshot.guid header rest) ≡ Ok base → rest ≡ Ok base
  from_origin true snapshot rest base e = e
  from_origin false snapshot rest base e = (unless_ok (not (snapshot.guid == header.from)) (plans.NotLatest snapshot.guid header.from) rest base e).1

  asked : (name : List ℕ) (base : Base) → base_by_origin header pool name ≡ Ok base → IsThere pool base
  asked name base e =
      let freed : Snapshot → Result Base PlanFault = λ snapshot. if_frees header (cloned_base header pool snapshot) in
      let found = bind_ok (find_snapshot name pool) (λ snapshot. if_from_origin snapshot header (freed snapshot)) base e in
      let there = found_passes (λ snapshot. bytes_eq snapshot.name name) pool.snapshots found.0 (or_parts _ (absent (names.Snapshot name)) found.0 found.1) in
      let from = from_origin (is_full header) found.0 (freed found.0) base found.2 in
      let frees = unless_ok (is_full header && bit_and header.flags free_records == 0) (plans.Unsupported lacks.FullWithoutFrees) (cloned_base header pool found.0) base from in
      cloned found.0 base there.0 frees.1

  anew : (base : Base) → base_anew ask header pool ≡ Ok base → IsThere pool base
  anew base e = go ask.origin e
    where
      go : (o : Option (List ℕ)) → option_map_or (base_by_origin header pool) o (base_by_guid header pool) ≡ Ok base → IsThere pool base
      go None e = guided base e
      go (Some name) e = asked name base e

  base_there : (base : Base) → base_for ask header pool ≡ Ok base → IsThere pool base
  base_there base e = go (dataset_named ask.target pool) e
    where
      go : (o : Option Dataset) → option_map_or (base_onto ask header pool) o (base_anew ask header pool) ≡ Ok base → IsThere pool base
      go None e = anew base e
      go (Some dataset) e = onto dataset base e

-- ---- the plan

-- a target without a partial state begins afresh, by a stream that isn't resumed
record IsFresh (ask : RecvAsk) (header : Header) (pool : Pool) (plan : RecvPlan) : Type 0 where
  component : List ℕ
  comes : component_for ask header ≡ Ok component
  plain : planning.is_resumed header ≡ false
  base : Base
  based : base_for ask header pool ≡ Ok base
  begins : plan ≡ Begins component base

room_parts : (ask : RecvAsk) (pool : Pool) (plan last : RecvPlan) → if_room ask.target pool (Ok last) ≡ Ok plan → last ≡ plan
room_parts ask pool plan last e =
    let made : Result RecvPlan PlanFault = Ok last in
    let third = if_within quantities.Snapshots most_snapshots (length pool.snapshots + (length pool.partials + 1)) made in
    let second = if_within quantities.Datasets most_datasets (count_datasets pool + new_datasets ask.target pool) third in
    let a = unless_ok (nat_lt most_partials (length pool.partials + 1)) (plans.Limit quantities.Partials most_partials) second plan e in
    let b = unless_ok (nat_lt most_datasets (count_datasets pool + new_datasets ask.target pool)) (plans.Limit quantities.Datasets most_datasets) third plan a.1 in
    let c = unless_ok (nat_lt most_snapshots (length pool.snapshots + (length pool.partials + 1))) (plans.Limit quantities.Snapshots most_snapshots) made plan b.1 in
    ok_parts last plan c.1

fresh : (ask : RecvAsk) (header : Header) (pool : Pool) (plan : RecvPlan) → partial_of ask.target pool ≡ None → recv_plan ask header pool ≡ Ok plan → IsFresh ask header pool plan
unfolding recv_plan
fresh ask header pool plan none e =
    let next : List ℕ → Result RecvPlan PlanFault = λ component. option_map_or (resumed_plan header) (partial_of ask.target pool) (fresh_plan ask header component pool) in
    let named = bind_ok (component_for ask header) next plan e in
    let begun = subst (λ (o : Option Partial). option_map_or (resumed_plan header) o (fresh_plan ask header named.0 pool) ≡ Ok plan) none named.2 in
    let name = snapshot_name ask.target named.0 in
    let roomed : Base → Result RecvPlan PlanFault = λ base. if_room ask.target pool (Ok (Begins named.0 base)) in
    let newed : Base → Result RecvPlan PlanFault = λ base. if_new name pool (roomed base) in
    let held : Base → Result RecvPlan PlanFault = λ base. if_contained base header (newed base) in
    let plain = unless_ok (planning.is_resumed header) (plans.NoPartial ask.target) (base_for ask header pool >>= held) plan begun in
    let found = bind_ok (base_for ask header pool) held plan plain.1 in
    let inside = unless_ok (not (planning.is_contained (planning.redacted_for found.0.snapshot) header)) (plans.NotContained (planning.outside_guid (planning.redacted_for found.0.snapshot) header)) (newed found.0) plan found.2 in
    let new = unless_ok (is_some (snapshot_named name pool)) (plans.Exists (present.Named (names.Snapshot name))) (roomed found.0) plan inside.1 in
    record { component = named.0; comes = named.1; plain = plain.0; base = found.0; based = found.1; begins = sym (room_parts ask pool plan (Begins named.0 found.0) new.1) }

resumes : (ask : RecvAsk) (header : Header) (pool : Pool) (old : Partial) (plan : RecvPlan) → partial_of ask.target pool ≡ Some old → recv_plan ask header pool ≡ Ok plan → plan ≡ Resumes old
unfolding recv_plan
resumes ask header pool old plan found e =
    let next : List ℕ → Result RecvPlan PlanFault = λ component. option_map_or (resumed_plan header) (partial_of ask.target pool) (fresh_plan ask header component pool) in
    let named = bind_ok (component_for ask header) next plan e in
    let on = subst (λ (o : Option Partial). option_map_or (resumed_plan header) o (fresh_plan ask header named.0 pool) ≡ Ok plan) found named.2 in
    let going = unless_ok (not (planning.is_resumed header)) (plans.PartialExists old.target) _ plan on in
    let right = unless_ok (not (planning.goes_on old header)) (wrong_resume old header) (Ok (Resumes old)) plan going.1 in
    sym (ok_parts (Resumes old) plan right.1)

-- ---- what stands under way

-- a receive's partial state, which is of its target
pub record IsOwn (ask : RecvAsk) (pool : Pool) (partial : Partial) : Type 0 where
  pub own : partial.target ≡ ask.target
  pub fits : IsFitting pool.snapshots partial

abbrev pub StandsFit : RecvAsk → Pool → Stage → Type 0
StandsFit ask pool Waits = Unit {0}
StandsFit ask pool (Lives flags partial) = IsOwn ask pool partial
StandsFit ask pool (Ends partial) = IsOwn ask pool partial

-- the target's partial state in a lawful pool
pub old_fits : (ask : RecvAsk) (pool : Pool) (partial : Partial) → IsPool pool → partial_of ask.target pool ≡ Some partial → IsOwn ask pool partial
old_fits ask pool partial p found =
    let there = (found_passes (λ (q : Partial). bytes_eq q.target ask.target) pool.partials partial found).0 in
    let named = All-contains (λ q. IsDataset q.target × IsComponent q.component) pool.partials partial p.named.targets there in
    let is = All-contains (λ q. IsStated q.header × IsState q.objects.state) pool.partials partial p.partials there in
    record {
      own = own_target ask.target pool partial found;
      fits = record {
        target = named.0;
        component = named.1;
        stated = is.0;
        lawful = is.1;
        based = All-contains (λ q. IfSome q.base (HasSnapshot pool)) pool.partials partial p.linked.bases there;
        free = All-contains (λ q. HasSnapshot pool (q.target ++ 64 ∷ q.component) → ⊥) pool.partials partial p.linked.components there;
      };
    }

module _ (ask : RecvAsk) (asks : IsAsk ask) (pool : Pool) (p : IsPool pool) (header : Header) (states : StatesBegin header) where
  base_named : (o : Option Snapshot) → IfSome o (Contains pool.snapshots) → IfSome (option_map (λ snapshot. snapshot.name) o) (IsOneOf pool.snapshots)
  base_named None there = tt
  base_named (Some snapshot) there = (snapshot, there, refl)

  -- one that begins afresh
  begun_fits : (plan : RecvPlan) → partial_of ask.target pool ≡ None → recv_plan ask header pool ≡ Ok plan → StandsFit ask pool (opened ask header plan).stage
  begun_fits plan none planned =
      let is = fresh ask header pool plan none planned in
      let began = began_in ask header pool is.component is.base p none (planned ∙ ap (λ (q : RecvPlan). Ok q) is.begins) in
      let plain : bit_and header.features resuming ≡ 0 = eqb-true (bit_and header.features resuming) 0 (not-false (bit_and header.features resuming == 0) is.plain) in
      let name = snapshot_name ask.target is.component in
      subst (λ (q : RecvPlan). StandsFit ask pool (opened ask header q).stage) (sym is.begins) (record {
        own = refl;
        fits = record {
          target = asks.target;
          component = comes_as ask header is.component asks.snapshot is.comes;
          stated = states.kept plain;
          lawful = began.lawful;
          based = base_named is.base.snapshot (base_there ask header pool is.base is.based);
          free = λ has. true≢false (sym (bytes_same has.0.name name has.2) ∙ none_passes (λ (s : Snapshot). bytes_eq s.name name) pool.snapshots began.new has.0 has.1);
        };
      })

  pub opened_fits : (plan : RecvPlan) → recv_plan ask header pool ≡ Ok plan → StandsFit ask pool (opened ask header plan).stage
  opened_fits plan planned = go (partial_of ask.target pool) refl
    where
      go : (o : Option Partial) → partial_of ask.target pool ≡ o → StandsFit ask pool (opened ask header plan).stage
      go None none = begun_fits plan none planned
      go (Some old) found =
          subst (λ (q : RecvPlan). StandsFit ask pool (opened ask header q).stage) (sym (resumes ask header pool old plan found planned)) (old_fits ask pool old p found)
