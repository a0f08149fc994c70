-- What a part of a check finds, and the states that it looks at.
use Rattle.std.specs.Prelude.{◌≡◌, ◌⊎◌, ℕ, ◌+◌, ◌<◌, ◌≤◌, true, List, length, Option, None, Some, Contains, HoldsAt}
use Rattle.zst_dir.specs.RowNames.{NamesPartial}
use Rattle.zst_dir.specs.Rows.{Rows}
use Rattle.zst_model.specs.pools.Ancestry.{Place, InDataset, InPartial}
use Rattle.zst_model.specs.pools.Pool.{Pool, Snapshot, Partial}
use Rattle.zst_model.specs.pools.Rows.{Row, rows}
use Rattle.zst_model.specs.pools.Soundness.{Dated, DatedUpTo, Sound}
use Rattle.zst_model.specs.states.DatedState.{DatedState}
use Rattle.zst_model.specs.states.State.{is_number, index_bound}
use Rattle.zst_laws.specs.RedactionLists.{AreListed}
use Rattle.zst_names.specs.Names.{dataset_of}
use Rattle.zst_objset.specs.Sets.{SetHolds}
use Rattle.zst_tree.specs.Indices.{Blocks}
use Rattle.zst_tree.specs.declared.tree.ObjSet.{ObjSet}
use Rattle.zst_check.specs.FailingPlaces.{IsStateNamed, LateDate, LateSnapshot, number_itself}
use Rattle.zst_check.specs.Reports.{IsUnsoundAt}
use Rattle.zst_check.specs.declared.report.Report.{Report}
use Rattle.zst_check.specs.declared.report.Report.TheVariants as reports
use Rattle.zst_check.specs.declared.states.State.{State}
use Rattle.zst_check.specs.declared.states.State.TheVariants as states

-- nothing, where this holds, or a place at which it fails
abbrev pub Finds : Type 0 → (List ℕ → List ℕ → ℕ → ℕ → Type 0) → Option Report → Type 0
Finds holds fails None = holds
Finds holds fails (Some (reports.Sound blocks)) = ⊥
Finds holds fails (Some (reports.Unsound earlier later object block)) = fails earlier later object block

-- nothing, where no date of the state is above a number, or an object and a block of it that is dated above
abbrev pub FindsLate : ℕ → DatedState → Option (ℕ × ℕ) → Type 0
FindsLate number state None = DatedUpTo number state
FindsLate number state (Some at) =
    (is_number at.0 ≡ true)
    × (((at.1 ≡ number_itself) × (number < state.number_date at.0)) ⊎ ((at.1 < index_bound) × (number < state.index_date at.0 at.1)))

-- of part 2: nothing, where it holds, or a date or a snapshot's number that is too late
abbrev pub FindsLatePlace : Pool → Option Report → Type 0
FindsLatePlace pool found = Finds (Dated pool) (λ earlier later object block. LateDate pool earlier later object block ⊎ LateSnapshot pool earlier later object block) found

-- of all four parts: nothing, where they hold, or the first part that fails, with a place at which it does
abbrev pub FindsUnsound : Pool → Option Report → Type 0
FindsUnsound pool found = Finds (Sound pool × AreListed pool) (IsUnsoundAt pool) found

-- the object set of a state, the number up to which it is dated, in a pool with this number, and its name in a report
abbrev pub set_of : State → ObjSet
set_of (states.Snapshot row) = row.now.objects
set_of (states.Head row) = row.now.head
set_of (states.Partial row) = row.now.objects

abbrev pub number_of : ℕ → State → ℕ
number_of number (states.Snapshot row) = row.now.number
number_of number (states.Head row) = number
number_of number (states.Partial row) = number

abbrev pub name_of : State → List ℕ
name_of (states.Snapshot row) = row.now.name
name_of (states.Head row) = row.now.name
name_of (states.Partial row) = row.now.target

-- where it stands: a snapshot at its number in its dataset, a head in its dataset, and a partial state of the pool at its target and its base
abbrev pub IsPlaced : Pool → State → Place → Type 0
IsPlaced pool (states.Snapshot row) at = at ≡ InDataset (dataset_of 64 row.now.name) (Some row.now.number)
IsPlaced pool (states.Head row) at = at ≡ InDataset row.now.name None
IsPlaced pool (states.Partial row) at = (partial : Partial) × Contains pool.partials partial × NamesPartial row.now partial × (at ≡ InPartial partial)

-- a state of a directory stands for a dated state of the pool
pub record StandsFor (has : Blocks) (pool : Pool) (state : State) (row : Row) : Type 0 where
  pub holds : SetHolds has (set_of state) row.objects
  pub number_is : row.number ≡ number_of pool.number state
  pub named : IsStateNamed pool (name_of state) row
  pub placed : IsPlaced pool state row.place

-- how many states a directory has, and which they are: its rows
abbrev pub state_count : Rows → ℕ
state_count rows = length rows.snapshots + (length rows.datasets + length rows.partials)

abbrev pub IsStateOf : Rows → State → Type 0
IsStateOf rows (states.Snapshot row) = Contains rows.snapshots row.now
IsStateOf rows (states.Head row) = Contains rows.datasets row.now
IsStateOf rows (states.Partial row) = Contains rows.partials row.now

-- what stands at a place of all states: none behind the last
abbrev pub StateAt : Blocks → Pool → ℕ → Option State → Type 0
StateAt has pool place None = length (rows pool) ≤ place
StateAt has pool place (Some state) = HoldsAt (StandsFor has pool state) (rows pool) place

-- this snapshot stands at a place of a list
abbrev pub StandsAtPlace : List Snapshot → Option ℕ → Snapshot → Type 0
StandsAtPlace snapshots None snapshot = ⊥
StandsAtPlace snapshots (Some place) snapshot = HoldsAt (λ other. other ≡ snapshot) snapshots place
