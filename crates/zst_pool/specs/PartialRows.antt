-- What a receive and a command make of the rows of a directory.
use Rattle.std.specs.Prelude.{◌≡◌, ◌+◌, ◌∷◌, ◌++◌, ℕ, Bool, List, filter, not, Option, Some, None, Result, Ok, Err, IfSome, bytes_eq, if◌then◌else◌}
use Rattle.zst_names.specs.Names.{dataset_of}
use Rattle.zst_model.specs.declared.pools.command.Command.{Command}
use Rattle.zst_model.specs.declared.pools.command.Command.TheVariants as commands
use Rattle.zst_model.specs.declared.refusals.plan_fault.PlanFault.{PlanFault}
use Rattle.zst_model.specs.pools.Pool.{Pool}
use Rattle.zst_model.specs.refusals.Refusal.{refusal_of}
use Rattle.zst_dir.specs.Rows.{HasSnapshot, IsPartialRow, Rows, with_objects, with_partial, is_for}
use Rattle.zst_dir.specs.declared.rows.Dataset.{Dataset}
use Rattle.zst_dir.specs.declared.rows.Snapshot.{Snapshot}
use Rattle.zst_dir.specs.declared.rows.Partial.{Partial}
use Rattle.zst_pool.specs.Partials.{last_where, next_commit}

-- a partial state can be committed over these rows: its row is one, its base is there, and its snapshot isn't
pub record CanPut (rows : Rows) (partial : Partial) : Type 0 where
  pub row : IsPartialRow partial
  pub base : IfSome partial.base (HasSnapshot rows)
  pub component : HasSnapshot rows (partial.target ++ 64 ∷ partial.snapshot) → ⊥

-- the row of the latest snapshot of a dataset
abbrev pub latest_row : List ℕ → Rows → Option Snapshot
latest_row name rows = last_where (λ snapshot. bytes_eq (dataset_of 64 snapshot.name) name) rows.snapshots

-- the rows of datasets, of which one has the objects and the redaction guids of this snapshot
abbrev pub rolled_rows : List ℕ → Option Snapshot → List Dataset → List Dataset
rolled_rows name None datasets = datasets
rolled_rows name (Some snapshot) datasets = with_objects name snapshot.objects snapshot.redact datasets

-- rows with a partial state in place of its target's, and where it is asked for with the target's head rolled back
abbrev pub rows_with_partial : Bool → Partial → Rows → Rows
rows_with_partial roll partial rows = record rows {
  datasets = if roll then rolled_rows partial.target (latest_row partial.target rows) rows.datasets else rows.datasets;
  partials = with_partial partial (filter (λ other. not (is_for partial.target other)) rows.partials);
}

-- no partial state is touched
abbrev pub each_stays : List Partial → List Partial
each_stays rows = rows

-- the rows of partial states after a command that went well: an abort drops its target's, and no other command touches one
abbrev pub rows_after : Command → List Partial → List Partial
rows_after (commands.Abort target) rows = filter (λ other. not (is_for target other)) rows
rows_after command rows = rows

-- the pool passes no limit with its next commit, or is refused for the first that it passes
abbrev pub JudgesLimits : Pool → Result (Unit {0}) PlanFault → Type 0
JudgesLimits pool (Ok done) = next_commit pool ≡ Ok (record pool { number = pool.number + 1 })
JudgesLimits pool (Err fault) = next_commit pool ≡ Err (refusal_of fault)
