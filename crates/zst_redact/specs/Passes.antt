-- What the search for wanted pairs passes over, and what it finds.
use Rattle.std.specs.Prelude.{◌≡◌, ℕ, ◌+◌, ◌^◌, ◌<◌, ◌≤◌, Bool, true, false, List, Option, Some, None, nat_lt, ◌&&◌}
use Rattle.std.specs.List.{AllZip, list_all}
use Rattle.zst_model.specs.declared.states.cell.Run.{Run}
use Rattle.zst_model.specs.fields.Lists.{HasNoneFrom, IsAtOrAfter, IsLeastFrom, is_in_run}
use Rattle.zst_model.specs.pools.RedSet.{is_data}
use Rattle.zst_model.specs.sends.Inclusion.{Pairs}
use Rattle.zst_model.specs.states.DatedState.{DatedState}
use Rattle.zst_model.specs.states.State.{Object}
use Rattle.zst_tree.specs.Indices.{Blocks}
use Rattle.zst_tree.specs.declared.tree.ObjSet.{ObjSet}
use Rattle.zst_objset.specs.Sets.{SetHolds}
use Rattle.zst_traverse.specs.Runs.{IsFirstIn}
use Rattle.zst_redact.specs.declared.ahead.Ahead.{Ahead}
use Rattle.zst_redact.specs.declared.ahead.Ahead.TheVariants.{Here, Later, Never}

-- the states of redaction snapshots, one for each
abbrev pub States : Type 0
States = List DatedState

-- the set of a snapshot and those of redaction snapshots hold these states
pub record HoldStates (has : Blocks) (snap : ObjSet) (redactions : List ObjSet) (state : DatedState) (kept : States) : Type 0 where
  pub snapshot : SetHolds has snap state
  pub each : AllZip (SetHolds has) redactions kept

-- the pairs that a state dates after a number
abbrev pub is_late : ℕ → DatedState → Pairs
is_late number kept k i = nat_lt number (kept.index_date k i)

-- the pairs that each of some states dates after a number
abbrev pub are_late : ℕ → States → Pairs
are_late number kept k i = list_all (λ (redaction : DatedState). nat_lt number (redaction.index_date k i)) kept

-- so it is with the data of an object, which has a number
abbrev pub are_data : Object → ℕ → States → Pairs
are_data own number kept k i = is_data (own.blocks i) && are_late number kept k i

-- indices from one on up to another don't pass a test; where it is the same index, that does
pub record StopsAt (test : ℕ → Bool) (from to : ℕ) : Type 0 where
  pub from_on : from ≤ to
  pub none_before : (i : ℕ) → from ≤ i → i < to → test i ≡ false
  pub stays : to ≡ from → test to ≡ true

-- so many indices from one on are passed over: all, or those up to another
abbrev pub PassesTo : (ℕ → Bool) → ℕ → Option ℕ → Type 0
PassesTo test from None = (i : ℕ) → from ≤ i → test i ≡ false
PassesTo test from (Some to) = StopsAt test from to

-- so many numbers from one on, which have none of these pairs, are passed over: all, or those up to another
abbrev pub PassesNumbers : Pairs → ℕ → Option ℕ → Type 0
PassesNumbers pairs from None = (k i : ℕ) → from ≤ k → pairs k i ≡ false
PassesNumbers pairs from (Some to) = (k i : ℕ) → from ≤ k → k < to → pairs k i ≡ false

-- what lies ahead of an index: so many from it on pass a test, or those up to another don't, or none from it on does
abbrev pub TellsAhead : (ℕ → Bool) → ℕ → Ahead → Type 0
TellsAhead test from (Here count) = (i : ℕ) → from ≤ i → i < from + count → test i ≡ true
TellsAhead test from (Later to) = (i : ℕ) → from ≤ i → i < to → test i ≡ false
TellsAhead test from Never = (i : ℕ) → from ≤ i → test i ≡ false

-- whatever the images, those that pass are some and stand below the end of an object, and those that don't are some
abbrev pub AheadFits : ℕ → ℕ → Ahead → Type 0
AheadFits from end (Here count) = (0 < count) × (from + count ≤ end)
AheadFits from end (Later to) = from < to
AheadFits from end Never = Unit {0}

-- the same, where the index alone is known to pass
abbrev pub first_alone : Ahead → Ahead
first_alone (Here count) = Here 1
first_alone (Later to) = Later to
first_alone Never = Never

-- a run of indices of one object, its first and how many they are: the first is the first from one on that passes a test, and each of them passes it
pub record IsFirstRunIn (test : ℕ → Bool) (from below : ℕ) (found : ℕ × ℕ) : Type 0 where
  pub first : IsFirstIn test from below found.0
  pub all : (i : ℕ) → found.0 ≤ i → i < found.0 + found.1 → test i ≡ true

-- such a run is found, or no index passes
abbrev pub FindsRunIn : (ℕ → Bool) → ℕ → ℕ → Option (ℕ × ℕ) → Type 0
FindsRunIn test from below None = (i : ℕ) → from ≤ i → i < below → test i ≡ false
FindsRunIn test from below (Some found) = IsFirstRunIn test from below found

-- whatever the images, it is of some indices from one on
abbrev pub RunFitsIn : ℕ → (ℕ × ℕ) → Type 0
RunFitsIn from found = (from ≤ found.0) × (0 < found.1) × (found.0 + found.1 ≤ 2 ^ 43)

-- a run begins at the least pair at or after one, and has pairs of the set alone
pub record IsRunFrom (pairs : Pairs) (object block : ℕ) (run : Run) : Type 0 where
  pub least : IsLeastFrom pairs object block run.object run.first
  pub all : (k i : ℕ) → is_in_run run k i ≡ true → pairs k i ≡ true

-- such a run is found, and none is where there is no pair
abbrev pub FindsRun : Pairs → (ℕ × ℕ) → Option Run → Type 0
FindsRun pairs start None = HasNoneFrom pairs start.0 start.1
FindsRun pairs start (Some run) = IsRunFrom pairs start.0 start.1 run

-- whatever the images, a run that is found is of a number and of some indices, at or after a pair
pub record RunFits (start : ℕ × ℕ) (run : Run) : Type 0 where
  pub after : IsAtOrAfter start.0 start.1 run.object run.first
  pub number : run.object < 2 ^ 48
  pub some : 0 < run.count
  pub end : run.first + run.count ≤ 2 ^ 43
