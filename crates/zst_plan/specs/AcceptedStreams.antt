-- Which streams a receive accepts, and what it then begins with (zfs-receive(8)).
use Rattle.std.specs.Prelude.{◌≡◌, ◌≢◌, ◌⊎◌, ℕ, ◌+◌, ◌<◌, ◌≤◌, true, false, List, [], ◌∷◌, ◌++◌, length, Some, None, IfSome, Ok, All, Contains, bit_and}
use Rattle.zst_names.specs.Names.{IsComponent, component_of}
use Rattle.zst_model.specs.declared.sends.header.Header.{Header}
use Rattle.zst_model.specs.pools.Pool.{Pool, Dataset, Snapshot, Bookmark, Partial, IsNamed, dataset_named, snapshot_named, partial_of, dataset_of_snapshot, dataset_of_bookmark}
use Rattle.zst_model.specs.pools.Step.{count_datasets}
use Rattle.zst_model.specs.sends.Features.{redacts, resuming}
use Rattle.zst_model.specs.sends.Headers.{free_records}
use Rattle.zst_model.specs.sends.Points.{stated_point}
use Rattle.zst_model.specs.states.DatedState.{DatedState}
use Rattle.zst_model.specs.states.State.{number_bound, index_bound}
use Rattle.zst_laws.specs.LineageRefusals.{NoneHolds}
use Rattle.zst_plan.specs.RecvPlan.{Base, Resumes, Begins, recv_plan}
use Rattle.zst_plan.specs.declared.receive.RecvAsk.{RecvAsk}

-- ---- what a receive looks at

-- of all in a list of which this holds, it is the first
pub record IsFirst {A : Type 0} (Is : A → Type 0) (xs : List A) (x : A) : Type 0 where
  pub before : List A
  pub behind : List A
  pub stands : xs ≡ before ++ x ∷ behind
  pub holds : Is x
  pub none_before : NoneHolds Is before

-- the latest snapshot of a dataset: each other one of it has a lesser number
pub record IsLatest (pool : Pool) (dataset : List ℕ) (latest : Snapshot) : Type 0 where
  pub there : Contains pool.snapshots latest
  pub of : dataset_of_snapshot latest ≡ dataset
  pub others : (other : Snapshot) → Contains pool.snapshots other → dataset_of_snapshot other ≡ dataset → (other ≡ latest) ⊎ (other.number < latest.number)

-- some number that an object may have, or some index of it, is dated after this number
pub record IsDatedAfter (number : ℕ) (state : DatedState) : Type 0 where
  pub k : ℕ
  pub some : 0 < k
  pub below : k < number_bound
  pub dated : (number < state.number_date k) ⊎ ((i : ℕ) × (i < index_bound) × (number < state.index_date k i))

-- a bookmark of a dataset that is later than its latest snapshot
abbrev pub IsLaterMark : List ℕ → Snapshot → Bookmark → Type 0
IsLaterMark dataset latest bookmark = (dataset_of_bookmark bookmark ≡ dataset) × (latest.number < bookmark.number)

-- the component of the snapshot that comes: that of the name that is asked for, and else that of the stream's name, where it is one
pub data ComesAs (ask : RecvAsk) (header : Header) : List ℕ → Type 0 where
  Asked : (name : List ℕ) → ask.snap ≡ Some name → ComesAs ask header (component_of 64 name)
  Stated : ask.snap ≡ None → IsComponent (component_of 64 header.name) → ComesAs ask header (component_of 64 header.name)

-- a stream that no token asked for, into a target of a pool that has no partial state
pub record IsFresh (ask : RecvAsk) (header : Header) (pool : Pool) (component : List ℕ) : Type 0 where
  pub named : IsNamed pool
  pub comes : ComesAs ask header component
  pub no_partial : partial_of ask.target pool ≡ None
  pub plain : bit_and header.features resuming ≡ 0

-- ---- the base

-- an increment for a dataset that is there: a full stream and a clone make theirs
pub record IsInto (ask : RecvAsk) (header : Header) (pool : Pool) (dataset : Dataset) : Type 0 where
  pub there : dataset_named ask.target pool ≡ Some dataset
  pub unasked : ask.origin ≡ None
  pub increment : header.from ≢ 0

-- it comes from the latest snapshot of that dataset, and is of its kind
pub record IsOnto (ask : RecvAsk) (header : Header) (pool : Pool) (dataset : Dataset) (latest : Snapshot) : Type 0 where
  pub into : IsInto ask header pool dataset
  pub is_latest : IsLatest pool ask.target latest
  pub source : latest.guid ≡ header.from
  pub kind : dataset.kind ≡ header.kind

-- a target that isn't there, of no origin that is asked for
pub record IsNew (ask : RecvAsk) (pool : Pool) : Type 0 where
  pub absent : dataset_named ask.target pool ≡ None
  pub unasked : ask.origin ≡ None

-- a target that isn't there and is to be a clone of this origin
pub record IsOfOrigin (ask : RecvAsk) (pool : Pool) (origin : Snapshot) : Type 0 where
  pub absent : dataset_named ask.target pool ≡ None
  pub name : List ℕ
  pub asked : ask.origin ≡ Some name
  pub found : snapshot_named name pool ≡ Some origin

-- what a new dataset is a clone of: the first snapshot with the guid of an increment's source, or the origin that is asked for, which an increment comes from, and of which a full stream frees what it lacks
pub data IsCloned (ask : RecvAsk) (header : Header) (pool : Pool) (snapshot : Snapshot) : Type 0 where
  ByGuid : IsNew ask pool → header.from ≢ 0 → IsFirst (λ (s : Snapshot). s.guid ≡ header.from) pool.snapshots snapshot → IsCloned ask header pool snapshot
  FromOrigin : IsOfOrigin ask pool snapshot → header.from ≢ 0 → snapshot.guid ≡ header.from → IsCloned ask header pool snapshot
  OverOrigin : IsOfOrigin ask pool snapshot → header.from ≡ 0 → bit_and header.flags free_records ≢ 0 → IsCloned ask header pool snapshot

-- nothing as a base, a snapshot, and one to which the target's head is rolled back
abbrev pub nothing : Base
nothing = record { snapshot = None; rolls = false }

abbrev pub over : Snapshot → Base
over snapshot = record { snapshot = Some snapshot; rolls = false }

abbrev pub rolled_to : Snapshot → Base
rolled_to snapshot = record { snapshot = Some snapshot; rolls = true }

-- the base that a stream takes: a full one takes none; an increment takes the latest snapshot of its target, where the head is as that
-- snapshot left it, or is rolled back with -F and no later bookmark is lost; a clone takes what it is a clone of, of its kind
pub data TakesBase (ask : RecvAsk) (header : Header) (pool : Pool) : Base → Type 0 where
  TakesNothing : IsNew ask pool → header.from ≡ 0 → TakesBase ask header pool nothing
  TakesLatest : (dataset : Dataset) (latest : Snapshot) → IsOnto ask header pool dataset latest → (IsDatedAfter latest.number dataset.head → ⊥)
      → TakesBase ask header pool (over latest)
  RollsBack : (dataset : Dataset) (latest : Snapshot) → IsOnto ask header pool dataset latest → IsDatedAfter latest.number dataset.head
      → ask.force ≡ true → NoneHolds (IsLaterMark ask.target latest) pool.bookmarks → TakesBase ask header pool (rolled_to latest)
  Clones : (dataset : Dataset) (snapshot : Snapshot) → IsCloned ask header pool snapshot
      → dataset_named (dataset_of_snapshot snapshot) pool ≡ Some dataset → dataset.kind ≡ header.kind → TakesBase ask header pool (over snapshot)

-- a stream may come over a base with these redaction guids: there are none, the stream is full, it is of one of those snapshots, or its redaction guids, or those of its source, are among them
pub data IsContained (guids : List ℕ) (header : Header) : Type 0 where
  OverWhole : guids ≡ [] → IsContained guids header
  OfFull : header.from ≡ 0 → IsContained guids header
  OfOne : Contains guids header.to → IsContained guids header
  OfRedacted : bit_and header.features redacts ≢ 0 → All (Contains guids) header.redact → IsContained guids header
  OfSource : 0 < length header.from_redact → All (Contains guids) header.from_redact → IsContained guids header

-- its base, if it has one, is such a one
abbrev pub IsContainedIn : Base → Header → Type 0
IsContainedIn base header = IfSome base.snapshot (λ snapshot. IsContained snapshot.redact header)

-- ---- the limits

-- with the target there are 256 datasets at most
pub record KeepsDatasets (target : List ℕ) (pool : Pool) : Type 0 where
  pub few : count_datasets pool ≤ 256
  pub one_more : dataset_named target pool ≡ None → count_datasets pool < 256

-- one more partial state passes no limit: 16 of its own, those of datasets, and 1,024 of snapshots, among which it counts
pub record HasRoom (target : List ℕ) (pool : Pool) : Type 0 where
  pub partials : length pool.partials < 16
  pub datasets : KeepsDatasets target pool
  pub snapshots : length pool.snapshots + length pool.partials < 1024

-- ---- what is accepted

-- a stream that takes a base in which it is contained, whose snapshot's name is free and for which there is room, begins with exactly this base
abbrev pub StreamsBegin : Type 0
StreamsBegin =
    (ask : RecvAsk) (header : Header) (pool : Pool) (component : List ℕ) (base : Base)
    → IsFresh ask header pool component → TakesBase ask header pool base → IsContainedIn base header
    → snapshot_named (ask.target ++ 64 ∷ component) pool ≡ None → HasRoom ask.target pool
    → recv_plan ask header pool ≡ Ok (Begins component base)

-- a stream is the one that a partial state is of, and begins where it stands
pub record GoesOn (partial : Partial) (header : Header) : Type 0 where
  pub to : partial.header.to ≡ header.to
  pub from : partial.header.from ≡ header.from
  pub point : partial.point ≡ stated_point header.resume
  pub redact : partial.header.redact ≡ header.redact
  pub from_redact : partial.header.from_redact ≡ header.from_redact

-- such a stream, which a token asked for, goes on with the target's partial state
abbrev pub StreamsGoOn : Type 0
StreamsGoOn =
    (ask : RecvAsk) (header : Header) (pool : Pool) (component : List ℕ) (partial : Partial)
    → ComesAs ask header component → partial_of ask.target pool ≡ Some partial → bit_and header.features resuming ≢ 0 → GoesOn partial header
    → recv_plan ask header pool ≡ Ok (Resumes partial)

-- a stream that goes on with a partial state
pub record IsResumed (ask : RecvAsk) (header : Header) (pool : Pool) (partial : Partial) : Type 0 where
  pub there : Contains pool.partials partial
  pub target : partial.target ≡ ask.target
  pub asked : bit_and header.features resuming ≢ 0
  pub goes_on : GoesOn partial header

-- and no other goes on
abbrev pub GoingOnIsExact : Type 0
GoingOnIsExact =
    (ask : RecvAsk) (header : Header) (pool : Pool) (partial : Partial)
    → recv_plan ask header pool ≡ Ok (Resumes partial) → IsResumed ask header pool partial
