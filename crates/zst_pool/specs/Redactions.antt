-- What the plan of a redaction says of its definition, what its list is built of, and the row that it makes.
use Rattle.std.specs.Prelude.{◌≡◌, ◌<◌, ◌≤◌, ℕ, Bool, true, List, [], ◌∷◌, find, length, map, not, bytes_eq, Option, Some, None, Result, Ok, Err}
use Rattle.std.specs.Borrow.{Bor}
use Rattle.std.specs.Option.{option_map_or}
use Rattle.zst_model.specs.declared.refusals.faults.Quantity.TheVariants as quantities
use Rattle.zst_model.specs.declared.refusals.plan_fault.PlanFault.{PlanFault}
use Rattle.zst_model.specs.declared.refusals.plan_fault.PlanFault.TheVariants as plans
use Rattle.zst_model.specs.declared.refusals.refusal.Refusal.{Refusal}
use Rattle.zst_model.specs.fields.Lists.{Runs}
use Rattle.zst_model.specs.fields.RunsOf.{runs_of}
use Rattle.zst_model.specs.pools.Ancestry.{OfSnapshot}
use Rattle.zst_model.specs.pools.Limits.{most_runs}
use Rattle.zst_model.specs.pools.Pool.{Pool, snapshot_named}
use Rattle.zst_model.specs.pools.Pool as plain
use Rattle.zst_model.specs.pools.RedSet.{objects_of, red_set}
use Rattle.zst_model.specs.pools.Step.{Stepped, committed, find_each, guids_of, limited, not_descendant, redaction_of, relayed, unless_there, with_redaction}
use Rattle.zst_model.specs.refusals.Refusal.{refusal_of}
use Rattle.zst_model.specs.sends.SendPlan.{comes_before, has_guids}
use Rattle.zst_model.specs.states.AppliedItems.{unless}
use Rattle.zst_tree.specs.declared.tree.ObjSet.{ObjSet}
use Rattle.zst_tree.specs.declared.tree.Tree.{Tree}
use Rattle.zst_dir.specs.RowNames.{Match, StandAlike}
use Rattle.zst_dir.specs.Rows.{Rows}
use Rattle.zst_dir.specs.declared.rows.Bookmark.{Bookmark}
use Rattle.zst_dir.specs.declared.rows.Snapshot.{Snapshot}
use Rattle.zst_pool.specs.Lineage.{if_few_bookmarks, if_free_bookmark, if_of_dataset, with_marked}
use Rattle.zst_pool.specs.Plans.{bare_snapshot}
use Rattle.zst_pool.specs.declared.fault.PoolFault.{PoolFault}
use Rattle.zst_pool.specs.declared.fault.PoolFault.TheVariants as faults

-- the row of the snapshot of this name
abbrev pub snapshot_row : List ℕ → Rows → Option Snapshot
snapshot_row name rows = find (λ snapshot. bytes_eq snapshot.name name) rows.snapshots

-- what was found, where anything was, before the rest
abbrev pub with_found : {A : Type 0} → Option A → List A → List A
with_found None rest = rest
with_found (Some found) rest = found ∷ rest

-- the rows of the snapshots of these names, of each that is there
abbrev pub rows_of : List (List ℕ) → Rows → List Snapshot
rows_of [] rows = []
rows_of (name ∷ rest) rows = with_found (snapshot_row name rows) (rows_of rest rows)

-- the object sets of these rows
abbrev pub sets_of : List Snapshot → List ObjSet
sets_of rows = map (λ row. row.objects) rows

-- the guids of these rows, rising; equal ones count once
abbrev pub row_guids : List Snapshot → List ℕ
row_guids rows = guids_of (map bare_snapshot rows)

-- the snapshots of these names, each at the place of its row; or E3 of the first that is absent
abbrev pub JudgesEach : List (List ℕ) → Rows → Pool → Result (Unit {0}) PlanFault → Type 0
JudgesEach names rows pool (Ok done) =
    (found : List plain.Snapshot) × (find_each names pool ≡ Ok found) × Match (StandAlike rows.snapshots pool.snapshots) (rows_of names rows) found
JudgesEach names rows pool (Err fault) = find_each names pool ≡ Err (refusal_of fault)

-- what comes next, where nothing redacted the snapshot
abbrev pub if_whole : List ℕ → Result Stepped Refusal → Result Stepped Refusal
if_whole guids rest = unless (has_guids guids) relayed rest

-- where the snapshot stands before each of these
abbrev pub if_descend : Pool → plain.Snapshot → List plain.Snapshot → Result Stepped Refusal → Result Stepped Refusal
if_descend pool snapshot redactions rest = unless_there not_descendant (find (λ redaction. not (comes_before pool (OfSnapshot snapshot) redaction)) redactions) rest

-- and where a redaction bookmark of it can be made, whatever it lists
abbrev pub if_redacts : List ℕ → List ℕ → plain.Snapshot → List plain.Snapshot → Pool → Result Stepped Refusal → Result Stepped Refusal
if_redacts of name snapshot redactions pool rest =
    if_of_dataset of name (if_free_bookmark name pool (if_whole snapshot.redact (if_descend pool snapshot redactions (if_few_bookmarks pool rest))))

-- where its list has no more runs than a list may have, it is committed
abbrev pub if_short : plain.Bookmark → Pool → Result Stepped Refusal
if_short bookmark pool = limited quantities.Runs most_runs (length bookmark.runs) (committed (with_marked bookmark pool))

-- a snapshot stands before the one of this name, where that is there
abbrev pub comes_after : Pool → plain.Snapshot → List ℕ → Bool
comes_after pool snapshot name = option_map_or (λ redaction. comes_before pool (OfSnapshot snapshot) redaction) (snapshot_named name pool) true

-- what a redaction of the snapshot of this row finds, and what is left of its definition
pub record Redacts (rows : Rows) (of name : List ℕ) (names : List (List ℕ)) (pool : Pool) (row : Snapshot) : Type 0 where
  pub taken : plain.Snapshot
  pub redactions : List plain.Snapshot
  pub place : StandAlike rows.snapshots pool.snapshots row taken
  pub each : Match (StandAlike rows.snapshots pool.snapshots) (rows_of names rows) redactions
  pub there : snapshot_named of pool ≡ Some taken
  pub found : find_each names pool ≡ Ok redactions
  pub left : with_redaction of name names pool ≡ if_short (redaction_of name taken redactions) pool

-- the row of the snapshot that the definition redacts; or its refusal
abbrev pub JudgesRedaction : Rows → List ℕ → List ℕ → List (List ℕ) → Pool → Result (Bor Snapshot) PlanFault → Type 0
JudgesRedaction rows of name names pool (Ok row) = Redacts rows of name names pool row.now
JudgesRedaction rows of name names pool (Err fault) = with_redaction of name names pool ≡ Err (refusal_of fault)

-- the runs of what redaction snapshots leave of a snapshot
abbrev pub left_of : plain.Snapshot → List plain.Snapshot → Runs
left_of snapshot redactions = runs_of (red_set snapshot.objects.state snapshot.number (objects_of redactions))

-- the list is made, where it isn't too long, and refused where it is; nothing is damaged
abbrev pub MakesList : Runs → Result Runs PoolFault → Type 0
MakesList runs (Ok list) = (list ≡ runs) × (length runs ≤ most_runs)
MakesList runs (Err (faults.Plan fault)) = (fault ≡ plans.Limit quantities.Runs most_runs) × (most_runs < length runs)
MakesList runs (Err (faults.CannotApply fault)) = ⊥
MakesList runs (Err (faults.Redacted object block)) = ⊥
MakesList runs (Err (faults.Full need largest)) = ⊥
MakesList runs (Err (faults.Damaged sector stated found)) = ⊥
MakesList runs (Err faults.DiskFault) = Unit {0}
MakesList runs (Err faults.Failed) = ⊥
MakesList runs (Err faults.OutOfMemory) = Unit {0}

-- the row of a redaction bookmark of a snapshot, with these redaction guids, whose list of so many runs stands in a tree
abbrev pub redaction_row : List ℕ → Snapshot → List ℕ → ℕ → Tree → Bookmark
redaction_row name snapshot redact runs tree =
    record { name = name; guid = snapshot.guid; time = snapshot.time; number = snapshot.number; redact = redact; runs = runs; levels = tree.levels; root = tree.root }
