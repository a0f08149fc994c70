-- What the plan of a send gives, and for what it is refused, in which order.
use Rattle.std.specs.Prelude.{◌≡◌, ◌↔◌, ℕ, ◌<◌, true, List, [], length, Option, Some, IfSome, option_map, Result, Ok, Err, Contains}
use Rattle.zst_model.specs.declared.refusals.faults.Lack.TheVariants as lacks
use Rattle.zst_model.specs.declared.refusals.faults.Quantity.TheVariants as quantities
use Rattle.zst_model.specs.declared.refusals.subjects.AbsentSubject.TheVariants as missing
use Rattle.zst_model.specs.declared.refusals.subjects.Name.{Name}
use Rattle.zst_model.specs.declared.refusals.subjects.Name.TheVariants as names
use Rattle.zst_model.specs.declared.refusals.plan_fault.PlanFault.{PlanFault}
use Rattle.zst_model.specs.declared.refusals.plan_fault.PlanFault.TheVariants as plans
use Rattle.zst_model.specs.declared.sends.ask.FromName.{FromName}
use Rattle.zst_model.specs.declared.sends.ask.FromName.TheVariants.{Snap, Book}
use Rattle.zst_model.specs.declared.sends.ask.SendAsk.{SendAsk}
use Rattle.zst_model.specs.fields.RunsOf.{runs_of}
use Rattle.zst_model.specs.pools.Ancestry.{Source, OfSnapshot, IsIn, StandsBefore}
use Rattle.zst_model.specs.pools.Limits.{most_runs}
use Rattle.zst_model.specs.pools.Pool.{Pool, Snapshot, Bookmark, HasSnapshot, IsPool, dataset_of_snapshot}
use Rattle.zst_model.specs.pools.RedSet.{redacted_pairs}
use Rattle.zst_model.specs.pools.Soundness.{Sound}
use Rattle.zst_model.specs.sends.Headers.{Sent, IsOf, IsRedactionOf}
use Rattle.zst_model.specs.sends.SendPlan.{comes_before, find_snapshot, find_source, find_redaction, kind_of, name_of_source, send_plan, with_list}

-- a source stands before a snapshot of the pool
abbrev pub StandsBeforeSnapshot : Pool → Source → Snapshot → Type 0
StandsBeforeSnapshot pool source snapshot = StandsBefore pool source (dataset_of_snapshot snapshot) (Some snapshot.number)

-- in a sound pool the test says yes exactly where a source of the pool stands before a snapshot of it
abbrev pub BeforeIsTested : Type 0
BeforeIsTested =
    (pool : Pool) (source : Source) (snapshot : Snapshot) → IsPool pool → Sound pool → IsIn pool source → Contains pool.snapshots snapshot
    → (comes_before pool source snapshot ≡ true) ↔ StandsBeforeSnapshot pool source snapshot

-- the name of a source as an ask names it
abbrev pub name_of_from : FromName → Name
name_of_from (Snap name) = names.Snapshot name
name_of_from (Book name) = names.Bookmark name

-- a redacted snapshot isn't redacted once more
abbrev pub IsOnce : Snapshot → Option Bookmark → Type 0
IsOnce snapshot redaction = (bookmark : Bookmark) → redaction ≡ Some bookmark → snapshot.redact ≡ []

-- what is planned is of the pool and has the names that were asked for; the source stands before the snapshot, and nothing is redacted twice
pub record IsPlanned (ask : SendAsk) (pool : Pool) (sent : Sent) : Type 0 where
  pub is_of : IsOf pool sent
  pub snapshot : sent.snapshot.name ≡ ask.snap
  pub source : option_map name_of_source sent.source ≡ option_map name_of_from ask.from
  pub redaction : option_map (λ bookmark. bookmark.name) sent.redaction ≡ ask.redact
  pub before : IfSome sent.source (λ source. StandsBeforeSnapshot pool source sent.snapshot)
  pub once : IsOnce sent.snapshot sent.redaction

-- so is each plan of a lawful pool
abbrev pub PlansAreOfPool : Type 0
PlansAreOfPool = (ask : SendAsk) (pool : Pool) (sent : Sent) → IsPool pool → send_plan ask pool ≡ Ok sent → IsPlanned ask pool sent

-- where all that was asked for is there, E6 comes exactly where the source doesn't stand before the snapshot
abbrev pub AncestorIsWanted : Type 0
AncestorIsWanted =
    (ask : SendAsk) (pool : Pool) (snapshot : Snapshot) (source : Source) (redaction : Option Bookmark) → IsPool pool → Sound pool
    → find_snapshot ask.snap pool ≡ Ok snapshot → find_source ask.from pool ≡ Ok (Some source) → find_redaction ask.redact pool ≡ Ok redaction
    → (send_plan ask pool ≡ Err (plans.NotAncestor (names.Snapshot snapshot.name) (name_of_source source))) ↔ (StandsBeforeSnapshot pool source snapshot → ⊥)

-- ---- for what a send is refused, and in which order

-- some bookmark of the pool has this name
abbrev pub HasBookmark : Pool → List ℕ → Type 0
HasBookmark pool name = (bookmark : Bookmark) × Contains pool.bookmarks bookmark × (bookmark.name ≡ name)

-- the pool has the source that is named
abbrev pub HasNamed : Pool → FromName → Type 0
HasNamed pool (Snap name) = HasSnapshot pool name
HasNamed pool (Book name) = HasBookmark pool name

-- E3 of this name
abbrev pub lacks_named : Name → Result Sent PlanFault
lacks_named name = Err (plans.NoSuch (missing.Named name))

-- first E3 of the snapshot, whatever else is asked for
abbrev pub SnapshotIsWanted : Type 0
SnapshotIsWanted = (ask : SendAsk) (pool : Pool) → (HasSnapshot pool ask.snap → ⊥) → send_plan ask pool ≡ lacks_named (names.Snapshot ask.snap)

-- then E3 of the source
abbrev pub SourceIsWanted : Type 0
SourceIsWanted =
    (ask : SendAsk) (pool : Pool) (from : FromName)
    → HasSnapshot pool ask.snap → ask.from ≡ Some from → (HasNamed pool from → ⊥) → send_plan ask pool ≡ lacks_named (name_of_from from)

-- then E3 of the bookmark of `--redact`
abbrev pub BookmarkIsWanted : Type 0
BookmarkIsWanted =
    (ask : SendAsk) (pool : Pool) (name : List ℕ)
    → HasSnapshot pool ask.snap → IfSome ask.from (HasNamed pool) → ask.redact ≡ Some name → (HasBookmark pool name → ⊥)
    → send_plan ask pool ≡ lacks_named (names.Bookmark name)

-- what the names of an ask stand for in the pool, all of which is there
pub record IsAsked (pool : Pool) (ask : SendAsk) (snapshot : Snapshot) (source : Option Source) (redaction : Option Bookmark) : Type 0 where
  pub sends : Contains pool.snapshots snapshot × (snapshot.name ≡ ask.snap)
  pub comes_from : IfSome source (IsIn pool) × (option_map name_of_source source ≡ option_map name_of_from ask.from)
  pub redacts_by : IfSome redaction (Contains pool.bookmarks) × (option_map (λ bookmark. bookmark.name) redaction ≡ ask.redact)

-- then E6, whatever bookmark is asked for and whatever is redacted
abbrev pub SourceIsLater : Type 0
SourceIsLater =
    (ask : SendAsk) (pool : Pool) (snapshot : Snapshot) (source : Source) (redaction : Option Bookmark)
    → IsPool pool → Sound pool → IsAsked pool ask snapshot (Some source) redaction
    → (StandsBeforeSnapshot pool source snapshot → ⊥)
    → send_plan ask pool ≡ Err (plans.NotAncestor (names.Snapshot snapshot.name) (name_of_source source))

-- then E7, whatever is redacted
abbrev pub BookmarkIsOther : Type 0
BookmarkIsOther =
    (ask : SendAsk) (pool : Pool) (snapshot : Snapshot) (source : Option Source) (bookmark : Bookmark)
    → IsPool pool → Sound pool → IsAsked pool ask snapshot source (Some bookmark)
    → IfSome source (λ from. StandsBeforeSnapshot pool from snapshot)
    → (IsRedactionOf pool snapshot bookmark → ⊥)
    → send_plan ask pool ≡ Err (plans.NotRedactionOf bookmark.name snapshot.name)

-- what is asked for is there, and neither E6 nor E7 comes
pub record IsFit (pool : Pool) (ask : SendAsk) (snapshot : Snapshot) (source : Option Source) (redaction : Option Bookmark) : Type 0 where
  pub asked : IsAsked pool ask snapshot source redaction
  pub before : IfSome source (λ from. StandsBeforeSnapshot pool from snapshot)
  pub redacts : IfSome redaction (IsRedactionOf pool snapshot)

-- at last E19, where a redacted snapshot is to be redacted once more
abbrev pub RelayIsLast : Type 0
RelayIsLast =
    (ask : SendAsk) (pool : Pool) (snapshot : Snapshot) (source : Option Source) (redaction : Option Bookmark)
    → IsPool pool → Sound pool → IsFit pool ask snapshot source redaction → (IsOnce snapshot redaction → ⊥)
    → send_plan ask pool ≡ Err (plans.Unsupported lacks.Relay)

-- a plan is refused for nothing else that the directory tells: E5 and E23 of what a session holds come behind it
abbrev pub ElseIsPlanned : Type 0
ElseIsPlanned =
    (ask : SendAsk) (pool : Pool) (snapshot : Snapshot) (source : Option Source) (redaction : Option Bookmark)
    → IsPool pool → Sound pool → IsFit pool ask snapshot source redaction → IsOnce snapshot redaction
    → send_plan ask pool ≡ Ok (record { snapshot = snapshot; kind = kind_of pool snapshot; source = source; redaction = redaction })

-- the source is a redacted snapshot, and what is redacted in it makes more runs than a list may have
pub record HasLongList (sent : Sent) : Type 0 where
  pub own : Snapshot
  pub is_source : sent.source ≡ Some (OfSnapshot own)
  pub redacted : 0 < length own.redact
  pub long : most_runs < length (runs_of (redacted_pairs own.objects.state))

-- E23 of runs, which the blocks of the source tell, comes behind the plan exactly where that is so; otherwise the plan stands
abbrev pub LongListIsRefused : Type 0
LongListIsRefused =
    (sent : Sent)
    → ((with_list (Ok sent) ≡ Err (plans.Limit quantities.Runs most_runs)) ↔ HasLongList sent)
    × ((HasLongList sent → ⊥) → with_list (Ok sent) ≡ Ok sent)
