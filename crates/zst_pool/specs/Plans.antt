-- What a command's plan refuses, whatever the object sets hold.
use Rattle.std.specs.Prelude.{◌≡◌, ◌⊎◌, ◌↔◌, ℕ, ◌+◌, ◌<◌, ◌≤◌, ◌^◌, Bool, true, false, [], map, Result, Err}
use Rattle.zst_image.specs.Bodies.{Body}
use Rattle.zst_model.specs.declared.pools.command.Command.{Command}
use Rattle.zst_model.specs.declared.pools.command.Command.TheVariants as commands
use Rattle.zst_model.specs.declared.refusals.faults.Quantity.{Quantity}
use Rattle.zst_model.specs.declared.refusals.faults.Quantity.TheVariants as quantities
use Rattle.zst_model.specs.declared.refusals.plan_fault.PlanFault.{PlanFault}
use Rattle.zst_model.specs.declared.refusals.plan_fault.PlanFault.TheVariants as plans
use Rattle.zst_model.specs.declared.refusals.refusal.Refusal.{Refusal}
use Rattle.zst_model.specs.refusals.Refusal.{refusal_of}
use Rattle.zst_model.specs.pools.Pool.{Pool, untouched}
use Rattle.zst_model.specs.pools.Pool as plain
use Rattle.zst_model.specs.pools.Step.{Stepped}
use Rattle.zst_dir.specs.Rows.{Rows}
use Rattle.zst_dir.specs.declared.rows.Bookmark.{Bookmark}
use Rattle.zst_dir.specs.declared.rows.Dataset.{Dataset}
use Rattle.zst_dir.specs.declared.rows.Partial.{Partial}
use Rattle.zst_dir.specs.declared.rows.Snapshot.{Snapshot}
use Rattle.zst_image.specs.Reads.{IsNamedBy}
use Rattle.zst_pool.specs.declared.fault.PoolFault.{PoolFault}
use Rattle.zst_pool.specs.declared.fault.PoolFault.TheVariants.{Plan}
use Rattle.zst_image.specs.declared.pool_state.PoolState.{PoolState}

-- whether a quantity is counted in the directory and the latest body
abbrev pub is_counted : Quantity → Bool
is_counted quantities.Datasets = true
is_counted quantities.Snapshots = true
is_counted quantities.Guids = true
is_counted quantities.Bookmarks = true
is_counted which = false

-- whether the directory and the latest body alone tell a refusal: E3 to E6, E8, E14, E19, and E23 of what is counted there
abbrev pub is_by_rows : PlanFault → Bool
is_by_rows (plans.NoSuch missing) = true
is_by_rows (plans.Exists present) = true
is_by_rows (plans.Busy holder) = true
is_by_rows (plans.NotAncestor to from) = true
is_by_rows (plans.NotDescendant snapshot) = true
is_by_rows (plans.NoPartial dataset) = true
is_by_rows (plans.Unsupported lack) = true
is_by_rows (plans.Limit which number) = is_counted which
is_by_rows fault = false

-- where the object numbers that a command names end, and its indices; 0 where it names none
abbrev pub numbers_end : Command → ℕ
numbers_end (commands.Object dataset k head bonus spill) = k + 1
numbers_end (commands.Free dataset first count) = first + count
numbers_end command = 0

abbrev pub indices_end : Command → ℕ
indices_end (commands.Write dataset k i bytes) = i + 1
indices_end (commands.Punch dataset k first count) = first + count
indices_end (commands.Read name k i) = i + 1
indices_end command = 0

-- whether a command makes a list of redacted blocks
abbrev pub makes_list : Command → Bool
makes_list (commands.Redact snapshot bookmark redactions) = true
makes_list command = false

-- E23 of a number or an index: those that a command names end past 2^48, or past 2^43, and the limit is told
abbrev pub IsPast : (numbers indices : ℕ) → PlanFault → Type 0
IsPast numbers indices fault =
    ((fault ≡ plans.Limit quantities.Object (2 ^ 48)) × (2 ^ 48 < numbers))
    ⊎ ((fault ≡ plans.Limit quantities.Block (2 ^ 43)) × (2 ^ 43 < indices))

-- E23 of the commit's number: the last commit was made
abbrev pub IsLast : (number : ℕ) → PlanFault → Type 0
IsLast number fault = (fault ≡ plans.Limit quantities.Number (2 ^ 63)) × (2 ^ 63 ≤ number)

-- E23 of the runs of a list: only of a command that makes one; that the list is longer the definition tells of the pool at rest
abbrev pub IsLong : (lists : Bool) → PlanFault → Type 0
IsLong lists fault = (fault ≡ plans.Limit quantities.Runs 65536) × (lists ≡ true)

-- E23 of what isn't counted
abbrev pub IsLimitOf : (numbers indices : ℕ) → (lists : Bool) → Body → PlanFault → Type 0
IsLimitOf numbers indices lists body fault = IsPast numbers indices fault ⊎ (IsLong lists fault ⊎ IsLast body.uber.number fault)

-- what a command's plan refuses: what the directory and the body tell exactly where the definition says so, of each pool that they name; and else only what passes a limit
pub record Plans {T : Type 0} (definition : Pool → Result Stepped Refusal) (numbers indices : ℕ) (lists : Bool) (kept : PoolState) (result : Result T PoolFault) : Type 0 where
  pub exact : (pool : Pool) (fault : PlanFault) → IsNamedBy kept.body kept.dir pool → is_by_rows fault ≡ true → (definition pool ≡ Err (refusal_of fault)) ↔ (result ≡ Err (Plan fault))
  pub limits : (fault : PlanFault) → result ≡ Err (Plan fault) → (is_by_rows fault ≡ true) ⊎ IsLimitOf numbers indices lists kept.body fault

-- the pool that a body and its rows name, whose objects nothing touched yet
abbrev pub bare_dataset : Dataset → plain.Dataset
bare_dataset row = record { name = row.name; kind = row.kind; origin = row.origin; head = untouched; redact = row.redact }

abbrev pub bare_snapshot : Snapshot → plain.Snapshot
bare_snapshot row = record { name = row.name; guid = row.guid; time = row.time; number = row.number; objects = untouched; redact = row.redact }

abbrev pub bare_bookmark : Bookmark → plain.Bookmark
bare_bookmark row = record { name = row.name; guid = row.guid; time = row.time; number = row.number; redact = row.redact; runs = [] }

abbrev pub bare_partial : Partial → plain.Partial
bare_partial row = record { target = row.target; component = row.snapshot; keep = row.keep; header = row.header; base = row.base; objects = untouched; point = row.point }

abbrev pub bare_pool : Body → Rows → Pool
bare_pool body rows = record {
  id = body.uber.id;
  number = body.uber.number;
  guids = body.uber.guids;
  datasets = map bare_dataset rows.datasets;
  snapshots = map bare_snapshot rows.snapshots;
  bookmarks = map bare_bookmark rows.bookmarks;
  partials = map bare_partial rows.partials;
}
