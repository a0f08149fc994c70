-- Which streams a receive refuses, and with which refusal where several could come (zfs-receive(8)).
use Rattle.std.specs.Prelude.{◌≡◌, ◌≢◌, ◌⊎◌, ℕ, ◌+◌, ◌<◌, ◌≤◌, true, false, List, [], ◌∷◌, ◌++◌, length, Some, None, Err, Contains, bit_and}
use Rattle.zst_names.specs.Names.{IsComponent, StopsAt}
use Rattle.zst_model.specs.declared.refusals.faults.Lack.TheVariants as lacks
use Rattle.zst_model.specs.declared.refusals.faults.Quantity.TheVariants as quantities
use Rattle.zst_model.specs.declared.refusals.subjects.AbsentSubject.TheVariants as missing
use Rattle.zst_model.specs.declared.refusals.subjects.Holder.TheVariants as holders
use Rattle.zst_model.specs.declared.refusals.subjects.Name.TheVariants as names
use Rattle.zst_model.specs.declared.refusals.subjects.PresentSubject.TheVariants as present
use Rattle.zst_model.specs.declared.refusals.plan_fault.PlanFault.{PlanFault}
use Rattle.zst_model.specs.declared.refusals.plan_fault.PlanFault.TheVariants as plans
use Rattle.zst_model.specs.declared.sends.header.Header.{Header}
use Rattle.zst_model.specs.pools.Pool.{Pool, Dataset, Snapshot, Bookmark, Partial, dataset_named, snapshot_named, partial_of, dataset_of_snapshot}
use Rattle.zst_model.specs.pools.Step.{count_datasets}
use Rattle.zst_model.specs.sends.Features.{redacts, resuming}
use Rattle.zst_model.specs.sends.Headers.{free_records}
use Rattle.zst_model.specs.sends.Points.{stated_point}
use Rattle.zst_laws.specs.LineageRefusals.{NoneHolds}
use Rattle.zst_plan.specs.AcceptedStreams.{IsFirst, IsLatest, IsDatedAfter, IsLaterMark, ComesAs, IsFresh, IsInto, IsOnto, IsNew, IsOfOrigin, IsCloned, TakesBase, IsContained, IsContainedIn, KeepsDatasets, GoesOn}
use Rattle.zst_plan.specs.RecvPlan.{Base, recv_plan}
use Rattle.zst_plan.specs.declared.receive.RecvAsk.{RecvAsk}

-- the plan of the receive has this refusal
abbrev pub IsRefused : RecvAsk → Header → Pool → PlanFault → Type 0
IsRefused ask header pool fault = recv_plan ask header pool ≡ Err fault

-- ---- the snapshot's name

-- E2, whatever the pool has: no component stands behind the first `@` of the stream's name; the place in the whole name is told
abbrev pub NameStops : Type 0
NameStops =
    (ask : RecvAsk) (header : Header) (pool : Pool) (front text : List ℕ) (place : ℕ)
    → ask.snap ≡ None → header.name ≡ front ++ 64 ∷ text → (Contains front 64 → ⊥) → (IsComponent text → ⊥) → StopsAt IsComponent text place
    → IsRefused ask header pool (plans.BadName (length front + 1 + place))

-- E2: the stream's name has no `@`
abbrev pub NameHasNoMark : Type 0
NameHasNoMark =
    (ask : RecvAsk) (header : Header) (pool : Pool)
    → ask.snap ≡ None → (Contains header.name 64 → ⊥) → IsRefused ask header pool (plans.BadName (length header.name))

-- ---- partial states

-- E13: the target has a partial state, and no token asked for the stream
abbrev pub PartialIsThere : Type 0
PartialIsThere =
    (ask : RecvAsk) (header : Header) (pool : Pool) (component : List ℕ) (partial : Partial)
    → ComesAs ask header component → partial_of ask.target pool ≡ Some partial → bit_and header.features resuming ≡ 0
    → IsRefused ask header pool (plans.PartialExists ask.target)

-- E15: the stream isn't the one that the partial state is of, or doesn't begin where it stands; told is what the pool keeps, and then what the stream states
abbrev pub PartialIsElsewhere : Type 0
PartialIsElsewhere =
    (ask : RecvAsk) (header : Header) (pool : Pool) (component : List ℕ) (partial : Partial)
    → ComesAs ask header component → partial_of ask.target pool ≡ Some partial → bit_and header.features resuming ≢ 0 → (GoesOn partial header → ⊥)
    → IsRefused ask header pool
    (plans.WrongResume (record { guid = partial.header.to; point = partial.point }) (record { guid = header.to; point = stated_point header.resume }))

-- E14: a token asked for the stream, and the target has no partial state, whether it is there or not
abbrev pub PartialIsAbsent : Type 0
PartialIsAbsent =
    (ask : RecvAsk) (header : Header) (pool : Pool) (component : List ℕ)
    → ComesAs ask header component → partial_of ask.target pool ≡ None → bit_and header.features resuming ≢ 0
    → IsRefused ask header pool (plans.NoPartial ask.target)

-- ---- a target that is there

-- a stream that makes its dataset: a full one, or one for a clone
abbrev pub MakesDataset : RecvAsk → Header → Type 0
MakesDataset ask header = (header.from ≡ 0) ⊎ ((origin : List ℕ) × (ask.origin ≡ Some origin))

-- E4: it is there, whatever its snapshots are
abbrev pub TargetIsThere : Type 0
TargetIsThere =
    (ask : RecvAsk) (header : Header) (pool : Pool) (component : List ℕ) (dataset : Dataset)
    → IsFresh ask header pool component → dataset_named ask.target pool ≡ Some dataset → MakesDataset ask header
    → IsRefused ask header pool (plans.Exists (present.Named (names.Dataset ask.target)))

-- E10: an increment comes from another snapshot than the latest, whatever its kind is; told is the guid of the latest, and then that of the stream's source
abbrev pub LatestIsAnother : Type 0
LatestIsAnother =
    (ask : RecvAsk) (header : Header) (pool : Pool) (component : List ℕ) (dataset : Dataset) (latest : Snapshot)
    → IsFresh ask header pool component → IsInto ask header pool dataset → IsLatest pool ask.target latest → latest.guid ≢ header.from
    → IsRefused ask header pool (plans.NotLatest latest.guid header.from)

-- E10: the dataset has no snapshot, in place of whose guid 0 is told
abbrev pub LatestIsAbsent : Type 0
LatestIsAbsent =
    (ask : RecvAsk) (header : Header) (pool : Pool) (component : List ℕ) (dataset : Dataset)
    → IsFresh ask header pool component → IsInto ask header pool dataset
    → NoneHolds (λ (snapshot : Snapshot). dataset_of_snapshot snapshot ≡ ask.target) pool.snapshots
    → IsRefused ask header pool (plans.NotLatest 0 header.from)

-- E19: the increment is of another kind than the dataset, whatever its head is
abbrev pub TargetIsOfKind : Type 0
TargetIsOfKind =
    (ask : RecvAsk) (header : Header) (pool : Pool) (component : List ℕ) (dataset : Dataset) (latest : Snapshot)
    → IsFresh ask header pool component → IsInto ask header pool dataset → IsLatest pool ask.target latest → latest.guid ≡ header.from
    → dataset.kind ≢ header.kind → IsRefused ask header pool (plans.Unsupported lacks.Kind)

-- E9: the head was changed after the latest snapshot, and -F isn't given
abbrev pub HeadIsChanged : Type 0
HeadIsChanged =
    (ask : RecvAsk) (header : Header) (pool : Pool) (component : List ℕ) (dataset : Dataset) (latest : Snapshot)
    → IsFresh ask header pool component → IsOnto ask header pool dataset latest → IsDatedAfter latest.number dataset.head → ask.force ≡ false
    → IsRefused ask header pool (plans.Modified ask.target)

-- E5: with -F a later bookmark of the dataset would be lost; of several the first is told
abbrev pub MarkIsLater : Type 0
MarkIsLater =
    (ask : RecvAsk) (header : Header) (pool : Pool) (component : List ℕ) (dataset : Dataset) (latest : Snapshot) (bookmark : Bookmark)
    → IsFresh ask header pool component → IsOnto ask header pool dataset latest → IsDatedAfter latest.number dataset.head → ask.force ≡ true
    → IsFirst (IsLaterMark ask.target latest) pool.bookmarks bookmark
    → IsRefused ask header pool (plans.Busy (holders.Bookmark bookmark.name))

-- ---- a target that isn't there

-- E3: the origin that is asked for is absent
abbrev pub OriginIsAbsent : Type 0
OriginIsAbsent =
    (ask : RecvAsk) (header : Header) (pool : Pool) (component origin : List ℕ)
    → IsFresh ask header pool component → dataset_named ask.target pool ≡ None → ask.origin ≡ Some origin → snapshot_named origin pool ≡ None
    → IsRefused ask header pool (plans.NoSuch (missing.Named (names.Snapshot origin)))

-- E10: an increment comes from another snapshot than the origin; told is the guid of the origin, and then that of the stream's source
abbrev pub OriginIsAnother : Type 0
OriginIsAnother =
    (ask : RecvAsk) (header : Header) (pool : Pool) (component : List ℕ) (origin : Snapshot)
    → IsFresh ask header pool component → IsOfOrigin ask pool origin → header.from ≢ 0 → origin.guid ≢ header.from
    → IsRefused ask header pool (plans.NotLatest origin.guid header.from)

-- E19: a full stream over an origin doesn't free what it lacks, whatever its kind is
abbrev pub FullWantsFrees : Type 0
FullWantsFrees =
    (ask : RecvAsk) (header : Header) (pool : Pool) (component : List ℕ) (origin : Snapshot)
    → IsFresh ask header pool component → IsOfOrigin ask pool origin → header.from ≡ 0 → bit_and header.flags free_records ≡ 0
    → IsRefused ask header pool (plans.Unsupported lacks.FullWithoutFrees)

-- E11: no snapshot has the guid of an increment's source
abbrev pub SourceIsAbsent : Type 0
SourceIsAbsent =
    (ask : RecvAsk) (header : Header) (pool : Pool) (component : List ℕ)
    → IsFresh ask header pool component → IsNew ask pool → header.from ≢ 0 → NoneHolds (λ (snapshot : Snapshot). snapshot.guid ≡ header.from) pool.snapshots
    → IsRefused ask header pool (plans.NoOrigin header.from)

-- E19: what the new dataset would be a clone of is of another kind than the stream
abbrev pub CloneIsOfKind : Type 0
CloneIsOfKind =
    (ask : RecvAsk) (header : Header) (pool : Pool) (component : List ℕ) (dataset : Dataset) (snapshot : Snapshot)
    → IsFresh ask header pool component → IsCloned ask header pool snapshot
    → dataset_named (dataset_of_snapshot snapshot) pool ≡ Some dataset → dataset.kind ≢ header.kind
    → IsRefused ask header pool (plans.Unsupported lacks.Kind)

-- ---- containment, the name and the limits

-- a guid that isn't among these
abbrev pub IsOutside : List ℕ → ℕ → Type 0
IsOutside guids guid = Contains guids guid → ⊥

-- the guid that E12 tells: the first redaction guid of a stream with REDACTED that the base lacks, that of the stream's source where it has no REDACTED, or where there are none its to guid
pub data TellsOutside (guids : List ℕ) (header : Header) : ℕ → Type 0 where
  OutsideRedacted : (guid : ℕ) → bit_and header.features redacts ≢ 0 → IsFirst (IsOutside guids) header.redact guid → TellsOutside guids header guid
  OutsideSource : (guid : ℕ) → bit_and header.features redacts ≡ 0 → IsFirst (IsOutside guids) header.from_redact guid → TellsOutside guids header guid
  OutsideTo : bit_and header.features redacts ≡ 0 → header.from_redact ≡ [] → TellsOutside guids header header.to

-- E12: the stream isn't contained in its base, whether the snapshot's name is free or not
abbrev pub BaseIsRedacted : Type 0
BaseIsRedacted =
    (ask : RecvAsk) (header : Header) (pool : Pool) (component : List ℕ) (base : Base) (snapshot : Snapshot) (guid : ℕ)
    → IsFresh ask header pool component → TakesBase ask header pool base → base.snapshot ≡ Some snapshot
    → (IsContained snapshot.redact header → ⊥) → TellsOutside snapshot.redact header guid
    → IsRefused ask header pool (plans.NotContained guid)

-- a stream with a base in which it is contained
pub record IsBased (ask : RecvAsk) (header : Header) (pool : Pool) (component : List ℕ) : Type 0 where
  pub fresh : IsFresh ask header pool component
  pub base : Base
  pub takes : TakesBase ask header pool base
  pub contained : IsContainedIn base header

-- E4: the dataset has a snapshot of this name, whatever limits are reached
abbrev pub NameIsTaken : Type 0
NameIsTaken =
    (ask : RecvAsk) (header : Header) (pool : Pool) (component : List ℕ) (snapshot : Snapshot)
    → IsBased ask header pool component → snapshot_named (ask.target ++ 64 ∷ component) pool ≡ Some snapshot
    → IsRefused ask header pool (plans.Exists (present.Named (names.Snapshot (ask.target ++ 64 ∷ component))))

-- a stream whose snapshot's name is free besides
pub record IsUntaken (ask : RecvAsk) (header : Header) (pool : Pool) (component : List ℕ) : Type 0 where
  pub based : IsBased ask header pool component
  pub free : snapshot_named (ask.target ++ 64 ∷ component) pool ≡ None

-- E23: there are 16 partial states at most
abbrev pub PartialsAreFull : Type 0
PartialsAreFull =
    (ask : RecvAsk) (header : Header) (pool : Pool) (component : List ℕ)
    → IsUntaken ask header pool component → 16 ≤ length pool.partials → IsRefused ask header pool (plans.Limit quantities.Partials 16)

-- E23: with the target, where it isn't there, there are 256 datasets at most
abbrev pub TargetsAreFull : Type 0
TargetsAreFull =
    (ask : RecvAsk) (header : Header) (pool : Pool) (component : List ℕ)
    → IsUntaken ask header pool component → length pool.partials < 16 → dataset_named ask.target pool ≡ None → 256 ≤ count_datasets pool
    → IsRefused ask header pool (plans.Limit quantities.Datasets 256)

-- E23: with the new partial state there are 1,024 snapshots and partial states at most
abbrev pub ReceivesAreFull : Type 0
ReceivesAreFull =
    (ask : RecvAsk) (header : Header) (pool : Pool) (component : List ℕ)
    → IsUntaken ask header pool component → length pool.partials < 16 → KeepsDatasets ask.target pool → 1024 ≤ length pool.snapshots + length pool.partials
    → IsRefused ask header pool (plans.Limit quantities.Snapshots 1024)
