-- What the checks of a command say of its definition.
use Rattle.std.specs.Prelude.{◌≡◌, ◌⊎◌, ℕ, ◌+◌, ◌<◌, ◌^◌, List, [], ◌∷◌, length, map, true, false, bytes_eq, is_some, Option, Result, Ok, Err, IfErr, OnOk}
use Rattle.std.specs.Borrow.{Bor}
use Rattle.std.specs.List.{list_any}
use Rattle.zst_names.specs.Names.{dataset_of}
use Rattle.zst_model.specs.declared.states.attr.ObjectHead.{ObjectHead}
use Rattle.zst_model.specs.declared.states.item.Change.TheVariants.{Put}
use Rattle.zst_model.specs.declared.states.item.Item.TheVariants.{At, FreeObjects}
use Rattle.zst_model.specs.sends.Items.{spill_change}
use Rattle.zst_model.specs.declared.refusals.plan_fault.PlanFault.{PlanFault}
use Rattle.zst_model.specs.declared.refusals.refusal.Refusal.{Refusal}
use Rattle.zst_model.specs.declared.refusals.faults.Quantity.TheVariants as quantities
use Rattle.zst_model.specs.declared.refusals.subjects.Name.TheVariants as names
use Rattle.zst_model.specs.states.AppliedItems.{unless, ◌>>=◌}
use Rattle.zst_model.specs.states.DatedState.{DatedState}
use Rattle.zst_model.specs.pools.AnswerLines.{ok_line}
use Rattle.zst_model.specs.pools.Pool.{Pool, is_before, snapshot_is_before, inserted, snapshot_named}
use Rattle.zst_model.specs.pools.Pool as plain
use Rattle.zst_model.specs.refusals.Refusal.{refusal_of}
use Rattle.zst_model.specs.pools.Step.{Stepped, exists_already, limited, last_guid, most_snapshots, on_dataset, on_head, committed, with_head, snapshot_of, with_snapshot, applied, in_numbers}
use Rattle.zst_tree.specs.declared.tree.ObjSet.{ObjSet}
use Rattle.zst_dir.specs.Rows.{HasSnapshot, Rows}
use Rattle.zst_dir.specs.declared.rows.Dataset.{Dataset}
use Rattle.zst_dir.specs.RowNames.{AreNamed, StandAlike}
use Rattle.zst_image.specs.declared.pool_state.PoolState.{PoolState}
use Rattle.zst_pool.specs.Faults.{StepFault}
use Rattle.zst_pool.specs.Plans.{IsLast, is_by_rows}
use Rattle.zst_pool.specs.declared.fault.PoolFault.{PoolFault}

-- a check that passes leaves what comes next of the definition, and one that refuses gives the definition's refusal
abbrev pub Judges : {T : Type 0} → Result Stepped Refusal → Result Stepped Refusal → Result T PlanFault → Type 0
Judges definition next (Ok value) = definition ≡ next
Judges definition next (Err fault) = definition ≡ Err (refusal_of fault)

-- a check by the rows of a directory: it refuses only what they tell, and is judged so by each pool that they name
pub record ChecksRows {T : Type 0} (dir : Rows) (judges : Pool → Result T PlanFault → Type 0) (result : Result T PlanFault) : Type 0 where
  pub rows : IfErr result (λ fault. is_by_rows fault ≡ true)
  pub judged : (pool : Pool) → AreNamed dir pool → judges pool result

-- a plan of a commit over what is kept: it is judged so by each pool that this names
pub record PlansCommit {T : Type 0} (kept : PoolState) (judges : Pool → Result T PlanFault → Type 0) (result : Result T PlanFault) : Type 0 where
  -- one more number is left
  pub number : OnOk result (kept.body.uber.number < 2 ^ 63)
  pub refused : IfErr result (λ fault. (is_by_rows fault ≡ true) ⊎ IsLast kept.body.uber.number fault)
  pub judged : (pool : Pool) → AreNamed kept.dir pool → pool.number ≡ kept.body.uber.number → judges pool result

-- a definition of which this check leaves what comes next, or gives its refusal
abbrev pub JudgesNext : {T : Type 0} → (Pool → Result Stepped Refusal → Result Stepped Refusal) → Pool → Result T PlanFault → Type 0
JudgesNext definition pool result = (rest : Result Stepped Refusal) → Judges (definition pool rest) rest result

-- what comes next, where a snapshot's name is free and one more snapshot has room
abbrev pub if_new_snapshot : List ℕ → Pool → Result Stepped Refusal → Result Stepped Refusal
if_new_snapshot name pool rest =
    unless (is_some (snapshot_named name pool)) (exists_already (names.Snapshot name))
    (limited quantities.Snapshots most_snapshots (length pool.snapshots + length pool.partials + 1) rest)

-- what comes next, where one more guid is left
abbrev pub if_guid_left : ℕ → Result Stepped Refusal → Result Stepped Refusal
if_guid_left guids rest = limited quantities.Guids last_guid (guids + 1) rest

-- the pool of the next commit, and its answer
abbrev pub next_of : Pool → Stepped
next_of pool = record { reply = ok_line (pool.number + 1) ∷ []; pool = record pool { number = pool.number + 1 } }

-- the next commit can be made, or what a command is refused for that accepts so far
abbrev pub JudgesCommit : {T : Type 0} → Pool → Result T PoolFault → Type 0
JudgesCommit pool (Ok value) = committed pool ≡ Ok (next_of pool)
JudgesCommit pool (Err fault) = StepFault (Unit {0}) (committed pool) fault

-- a pool with a new dataset
abbrev pub with_new : plain.Dataset → Pool → Pool
with_new dataset pool = record pool { datasets = inserted (λ a b. is_before a.name b.name) dataset pool.datasets }

-- one with a new snapshot
abbrev pub with_taken : ℕ → List ℕ → plain.Dataset → Pool → Pool
with_taken now name dataset pool = record pool { guids = pool.guids + 1; snapshots = inserted snapshot_is_before (snapshot_of now name pool dataset) pool.snapshots }

-- one with another head of a dataset
abbrev pub with_head_of : List ℕ → DatedState → Pool → Pool
with_head_of name head pool = record pool { datasets = with_head name head pool.datasets }

-- the row of a dataset that has no partial state, and the dataset at its place; or what each command on it is refused for
abbrev pub FindsDataset : Rows → List ℕ → Pool → Result (Bor Dataset) PlanFault → Type 0
FindsDataset rows name pool (Ok row) =
    (dataset : plain.Dataset) × StandAlike rows.datasets pool.datasets row.now dataset
    × ((next : plain.Dataset → Result Stepped Refusal) → on_dataset name pool next ≡ next dataset)
FindsDataset rows name pool (Err fault) = (next : plain.Dataset → Result Stepped Refusal) → on_dataset name pool next ≡ Err (refusal_of fault)

-- a snapshot of this name can be taken: there is none, and its dataset has no partial state
pub record CanTake (rows : Rows) (name : List ℕ) : Type 0 where
  pub absent : HasSnapshot rows name → ⊥
  pub free : list_any (λ partial. bytes_eq partial.target (dataset_of 64 name)) rows.partials ≡ false

-- the row of a new snapshot's dataset, the dataset at its place and what the definition makes of it; or its refusal
abbrev pub JudgesSnapshot : Rows → ℕ → List ℕ → Pool → Result (Bor Dataset) PlanFault → Type 0
JudgesSnapshot rows now name pool (Ok row) =
    (dataset : plain.Dataset) × StandAlike rows.datasets pool.datasets row.now dataset × (with_snapshot now name pool ≡ Ok (next_of (with_taken now name dataset pool)))
JudgesSnapshot rows now name pool (Err fault) = with_snapshot now name pool ≡ Err (refusal_of fault)

-- the set of a row whose head can be changed, and the dataset at its place; or what each change of it is refused for
abbrev pub FindsHead : Rows → List ℕ → Pool → Result ObjSet PlanFault → Type 0
FindsHead rows name pool (Ok set) =
    (row : Dataset) × (dataset : plain.Dataset) × StandAlike rows.datasets pool.datasets row dataset × (row.head ≡ set)
    × ((change : DatedState → Result DatedState Refusal) → on_head name pool change ≡ (change dataset.head >>= λ after. committed (with_head_of name after pool)))
FindsHead rows name pool (Err fault) = (change : DatedState → Result DatedState Refusal) → on_head name pool change ≡ Err (refusal_of fault)

-- what free and object make of a head
abbrev pub freed : Pool → ℕ → ℕ → DatedState → Result DatedState Refusal
freed pool first count head = in_numbers (first + count) (applied pool (FreeObjects first count ∷ []) head)

abbrev pub put_in : Pool → ℕ → ObjectHead → List ℕ → Option (List ℕ) → DatedState → Result DatedState Refusal
put_in pool k head bonus spill old = in_numbers (k + 1) (applied pool (map (At k) (Put head bonus false 0 ∷ spill_change spill)) old)
