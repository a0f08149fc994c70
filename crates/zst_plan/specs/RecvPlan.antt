-- What a receive begins with, or why it can't begin (zfs-receive(8)): its checks in their order.
use Rattle.std.specs.Prelude.{ℕ, ◌+◌, suc, Bool, true, false, ◌||◌, ◌&&◌, ◌==◌, not, nat_lt, min, List, [], ◌∷◌, ◌++◌, length, filter, find, Option, Some, None, is_some, Result, Ok, Err, bytes_eq, if◌then◌else◌, bit_and}
use Rattle.std.specs.List.{list_all, list_any, position_or_len}
use Rattle.std.specs.Option.{ok_or, option_map_or}
use Rattle.zst_names.specs.Names.{component_of, is_component_byte}
use Rattle.zst_model.specs.declared.refusals.faults.Lack.TheVariants as lacks
use Rattle.zst_model.specs.declared.refusals.faults.Quantity.{Quantity}
use Rattle.zst_model.specs.declared.refusals.faults.Quantity.TheVariants as quantities
use Rattle.zst_model.specs.declared.refusals.subjects.Holder.TheVariants as holders
use Rattle.zst_model.specs.declared.refusals.subjects.Name.TheVariants as names
use Rattle.zst_model.specs.declared.refusals.subjects.PresentSubject.TheVariants as present
use Rattle.zst_model.specs.declared.refusals.plan_fault.PlanFault.{PlanFault}
use Rattle.zst_model.specs.declared.refusals.plan_fault.PlanFault.TheVariants as plans
use Rattle.zst_model.specs.declared.sends.header.Header.{Header}
use Rattle.zst_model.specs.declared.sends.header.Point.{Point}
use Rattle.zst_model.specs.pools.Limits.{most_datasets, most_partials, most_snapshots}
use Rattle.zst_model.specs.pools.Pool.{Pool, Dataset, Snapshot, Partial, dataset_named, snapshot_named, partial_of, dataset_of_snapshot, dataset_of_bookmark}
use Rattle.zst_model.specs.pools.Step.{count_datasets}
use Rattle.zst_model.specs.sends.Features.{redacts, resuming}
use Rattle.zst_model.specs.sends.Headers.{free_records}
use Rattle.zst_model.specs.sends.Inclusion.{any_below}
use Rattle.zst_model.specs.sends.Points.{stated_point}
use Rattle.zst_model.specs.sends.SendPlan.{find_snapshot, has_guids, kind_of}
use Rattle.zst_model.specs.states.AppliedItems.{unless, ◌>>=◌}
use Rattle.zst_model.specs.states.DatedState.{DatedState}
use Rattle.zst_model.specs.states.State.{number_bound, index_bound, is_number}
use Rattle.zst_plan.specs.declared.receive.RecvAsk.{RecvAsk}

-- what a fresh receive takes: the snapshot that it starts from, or none, and whether the target's head is rolled back to it
pub record Base : Type 0 where
  pub snapshot : Option Snapshot
  pub rolls : Bool

-- what a receive begins with: the partial state that it goes on with, or a snapshot's component and a base
pub data RecvPlan : Type 0 where
  Resumes : Partial → RecvPlan
  Begins : (component : List ℕ) → Base → RecvPlan

-- ---- the snapshot's name (check 1)

-- the first byte of a text at which no component can go on, or its length
abbrev pub component_stop : List ℕ → ℕ
component_stop [] = 0
component_stop (byte ∷ rest) = if byte == 45 then 0 else min 64 (position_or_len (λ b. not (is_component_byte b)) (byte ∷ rest))

-- how many bytes of a name stand up to its first `@`, and with it
abbrev pub behind_mark : List ℕ → ℕ
behind_mark name = min (length name) (suc (position_or_len (λ b. b == 64) name))

-- whether a text is a component
abbrev pub is_component : List ℕ → Bool
is_component text = nat_lt 0 (length text) && component_stop text == length text

-- the component that the stream's name has, or E2 with the place in the name at which it stops being one
abbrev pub stated_component : List ℕ → Result (List ℕ) PlanFault
stated_component name =
    let component = component_of 64 name in
    unless (not (is_component component)) (plans.BadName (behind_mark name + component_stop component)) (Ok component)

-- the asked snapshot's component, and else the stream's
abbrev pub component_for : RecvAsk → Header → Result (List ℕ) PlanFault
component_for ask header = option_map_or (λ snapshot. Ok (component_of 64 snapshot)) ask.snap (stated_component header.name)

-- the name of the snapshot that comes
abbrev pub snapshot_name : List ℕ → List ℕ → List ℕ
snapshot_name target component = target ++ 64 ∷ component

-- ---- a resumed stream (checks 2 and 3)

-- whether a stream was asked for by a token
abbrev pub is_resumed : Header → Bool
is_resumed header = not (bit_and header.features resuming == 0)

-- whether two points are one
abbrev pub is_point : Point → Point → Bool
is_point one other = one.object == other.object && one.offset == other.offset

-- whether a stream goes on where a partial state stands: its guids, its point, and both sets of redaction guids are the partial state's
abbrev pub goes_on : Partial → Header → Bool
goes_on partial header =
    (partial.header.to == header.to && partial.header.from == header.from)
    && (is_point partial.point (stated_point header.resume)
    && (bytes_eq partial.header.redact header.redact && bytes_eq partial.header.from_redact header.from_redact))

-- E15: what the pool keeps, and what the stream states
abbrev pub wrong_resume : Partial → Header → PlanFault
wrong_resume partial header =
    plans.WrongResume (record { guid = partial.header.to; point = partial.point }) (record { guid = header.to; point = stated_point header.resume })

-- a target with a partial state: E13, E15
abbrev pub resumed_plan : Header → Partial → Result RecvPlan PlanFault
resumed_plan header partial =
    unless (not (is_resumed header)) (plans.PartialExists partial.target)
    (unless (not (goes_on partial header)) (wrong_resume partial header)
    (Ok (Resumes partial)))

-- ---- the base (checks 4 and 5)

-- whether a stream is from nothing
abbrev pub is_full : Header → Bool
is_full header = header.from == 0

-- the last of a list
abbrev pub last_of : {A : Type 0} → List A → Option A
last_of [] = None
last_of (x ∷ []) = Some x
last_of (x ∷ y ∷ rest) = last_of (y ∷ rest)

-- the latest snapshot of a dataset: they stand by number
abbrev pub latest_of : List ℕ → Pool → Option Snapshot
latest_of name pool = last_of (filter (λ snapshot. bytes_eq (dataset_of_snapshot snapshot) name) pool.snapshots)

-- whether some number or index of a state is dated after this number
unfoldable pub is_dated_after : ℕ → DatedState → Bool
is_dated_after number snap =
    any_below (λ k. is_number k && (nat_lt number (snap.number_date k) || any_below (λ i. nat_lt number (snap.index_date k i)) index_bound)) number_bound

-- E19: the stream is of another kind than the dataset
abbrev pub if_kind : {A : Type 0} → ℕ → Header → Result A PlanFault → Result A PlanFault
if_kind kind header rest = unless (not (kind == header.kind)) (plans.Unsupported lacks.Kind) rest

-- E10: the snapshot has another guid than the stream's source
abbrev pub if_source : {A : Type 0} → ℕ → Header → Result A PlanFault → Result A PlanFault
if_source guid header rest = unless (not (guid == header.from)) (plans.NotLatest guid header.from) rest

-- with -F the head goes back to the latest snapshot; E5 where a later bookmark of the dataset would be lost
abbrev pub rolled_back : Dataset → Snapshot → Pool → Result Base PlanFault
rolled_back dataset latest pool =
    option_map_or (λ bookmark. Err (plans.Busy (holders.Bookmark bookmark.name)))
    (find (λ bookmark. bytes_eq (dataset_of_bookmark bookmark) dataset.name && nat_lt latest.number bookmark.number) pool.bookmarks)
    (Ok (record { snapshot = Some latest; rolls = true }))

-- E9, or with -F the rollback, where the head was changed after its latest snapshot
abbrev pub base_by_head : Bool → Dataset → Snapshot → Pool → Result Base PlanFault
base_by_head force dataset latest pool =
    if is_dated_after latest.number dataset.head
    then unless (not force) (plans.Modified dataset.name) (rolled_back dataset latest pool)
    else Ok (record { snapshot = Some latest; rolls = false })

-- E4: a full stream, or one that is asked to begin as a clone, makes its dataset
abbrev pub if_increment : {A : Type 0} → RecvAsk → Header → List ℕ → Result A PlanFault → Result A PlanFault
if_increment ask header name rest = unless (is_full header || is_some ask.origin) (plans.Exists (present.Named (names.Dataset name))) rest

-- the latest snapshot of a dataset, or E10 where it has none
abbrev pub find_latest : List ℕ → Header → Pool → Result Snapshot PlanFault
find_latest name header pool = ok_or (latest_of name pool) (plans.NotLatest 0 header.from)

-- a dataset that is there takes an increment from its latest snapshot: E4, E10, E19, E9, E5
abbrev pub base_onto : RecvAsk → Header → Pool → Dataset → Result Base PlanFault
base_onto ask header pool dataset =
    if_increment ask header dataset.name
    (find_latest dataset.name header pool
    >>= (λ latest. if_source latest.guid header
    (if_kind dataset.kind header
    (base_by_head ask.force dataset latest pool))))

-- a snapshot as the base of a new dataset, which is a clone of it: E19
abbrev pub cloned_base : Header → Pool → Snapshot → Result Base PlanFault
cloned_base header pool snapshot = if_kind (kind_of pool snapshot) header (Ok (record { snapshot = Some snapshot; rolls = false }))

-- where no origin is asked, a full stream has no base, and an increment the first snapshot with its source's guid: E11
abbrev pub base_by_guid : Header → Pool → Result Base PlanFault
base_by_guid header pool =
    if is_full header
    then Ok (record { snapshot = None; rolls = false })
    else ok_or (find (λ snapshot. snapshot.guid == header.from) pool.snapshots) (plans.NoOrigin header.from) >>= cloned_base header pool

-- E10: an increment comes from another snapshot than the origin
abbrev pub if_from_origin : {A : Type 0} → Snapshot → Header → Result A PlanFault → Result A PlanFault
if_from_origin snapshot header rest = if is_full header then rest else if_source snapshot.guid header rest

-- E19: a full stream that doesn't free what it lacks leaves of an origin what it had there
abbrev pub if_frees : {A : Type 0} → Header → Result A PlanFault → Result A PlanFault
if_frees header rest = unless (is_full header && bit_and header.flags free_records == 0) (plans.Unsupported lacks.FullWithoutFrees) rest

-- the asked origin: E3, E10, E19
abbrev pub base_by_origin : Header → Pool → List ℕ → Result Base PlanFault
base_by_origin header pool name =
    find_snapshot name pool
    >>= (λ snapshot. if_from_origin snapshot header
    (if_frees header
    (cloned_base header pool snapshot)))

-- a new dataset
abbrev pub base_anew : RecvAsk → Header → Pool → Result Base PlanFault
base_anew ask header pool = option_map_or (base_by_origin header pool) ask.origin (base_by_guid header pool)

-- a target without a partial state
abbrev pub base_for : RecvAsk → Header → Pool → Result Base PlanFault
base_for ask header pool = option_map_or (base_onto ask header pool) (dataset_named ask.target pool) (base_anew ask header pool)

-- ---- containment (check 6)

-- whether a guid is among these
abbrev pub is_among : List ℕ → ℕ → Bool
is_among guids guid = list_any (λ other. other == guid) guids

-- whether a stream may have REDACT records
abbrev pub is_redacted : Header → Bool
is_redacted header = not (bit_and header.features redacts == 0)

-- whether a stream may come over a base that was redacted for these guids: its blocks that the base lacks are blocks that the stream has
abbrev pub is_contained : List ℕ → Header → Bool
is_contained guids header =
    not (has_guids guids) || (is_full header || (is_among guids header.to
    || ((is_redacted header && list_all (is_among guids) header.redact)
    || (has_guids header.from_redact && list_all (is_among guids) header.from_redact))))

-- the least guid that isn't among these, or another where all are
abbrev pub first_outside : List ℕ → List ℕ → ℕ → ℕ
first_outside guids stated other = option_map_or (λ guid. guid) (find (λ guid. not (is_among guids guid)) stated) other

-- the guid that E12 names
abbrev pub outside_guid : List ℕ → Header → ℕ
outside_guid guids header = if is_redacted header then first_outside guids header.redact header.to else first_outside guids header.from_redact header.to

-- the redaction guids of a base
abbrev pub redacted_for : Option Snapshot → List ℕ
redacted_for base = option_map_or (λ snapshot. snapshot.redact) base []

-- E12: the stream isn't contained in the base
abbrev pub if_contained : {A : Type 0} → Base → Header → Result A PlanFault → Result A PlanFault
if_contained base header rest =
    unless (not (is_contained (redacted_for base.snapshot) header)) (plans.NotContained (outside_guid (redacted_for base.snapshot) header)) rest

-- ---- the name is free, and the limits (check 7)

-- E4: the dataset has a snapshot of this component
abbrev pub if_new : {A : Type 0} → List ℕ → Pool → Result A PlanFault → Result A PlanFault
if_new name pool rest = unless (is_some (snapshot_named name pool)) (plans.Exists (present.Named (names.Snapshot name))) rest

-- E23 where a quantity would pass its limit
abbrev pub if_within : {A : Type 0} → Quantity → ℕ → ℕ → Result A PlanFault → Result A PlanFault
if_within which most quantity rest = unless (nat_lt most quantity) (plans.Limit which most) rest

-- a target that isn't there yet counts as a dataset
abbrev pub new_datasets : List ℕ → Pool → ℕ
new_datasets target pool = if is_some (dataset_named target pool) then 0 else 1

-- E23 of partial states, of datasets and of snapshots, among which partial states count
abbrev pub if_room : {A : Type 0} → List ℕ → Pool → Result A PlanFault → Result A PlanFault
if_room target pool rest =
    if_within quantities.Partials most_partials (length pool.partials + 1)
    (if_within quantities.Datasets most_datasets (count_datasets pool + new_datasets target pool)
    (if_within quantities.Snapshots most_snapshots (length pool.snapshots + (length pool.partials + 1))
    rest))

-- ---- all of them

-- E14: a resumed stream has nothing to go on with
abbrev pub if_plain : {A : Type 0} → List ℕ → Header → Result A PlanFault → Result A PlanFault
if_plain target header rest = unless (is_resumed header) (plans.NoPartial target) rest

-- E14, then the base, containment, the name and the limits
abbrev pub fresh_plan : RecvAsk → Header → List ℕ → Pool → Result RecvPlan PlanFault
fresh_plan ask header component pool =
    if_plain ask.target header
    (base_for ask header pool
    >>= (λ base. if_contained base header
    (if_new (snapshot_name ask.target component) pool
    (if_room ask.target pool
    (Ok (Begins component base))))))

-- what a receive of a stream with this header begins with: E2 comes first, and then the partial state of the target, where it has one
unfoldable pub recv_plan : RecvAsk → Header → Pool → Result RecvPlan PlanFault
recv_plan ask header pool =
    component_for ask header
    >>= (λ component. option_map_or (resumed_plan header) (partial_of ask.target pool) (fresh_plan ask header component pool))
