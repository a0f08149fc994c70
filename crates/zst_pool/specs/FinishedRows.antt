-- What a receive makes of the rows of a directory when it has all of its stream.
use Rattle.std.specs.Prelude.{ℕ, List, ◌∷◌, ◌++◌, filter, not, is_some, position, bytes_eq, if◌then◌else◌}
use Rattle.zst_model.specs.pools.Pool.{is_before, inserted}
use Rattle.zst_dir.specs.Rows.{Rows, with_objects, snapshot_is_before, is_for}
use Rattle.zst_dir.specs.declared.rows.Dataset.{Dataset}
use Rattle.zst_dir.specs.declared.rows.Snapshot.{Snapshot}
use Rattle.zst_dir.specs.declared.rows.Partial.{Partial}

-- the row of the snapshot that a partial state becomes with the commit of this number
abbrev pub snapshot_row_from : ℕ → Partial → Snapshot
snapshot_row_from number partial = record {
  name = partial.target ++ 64 ∷ partial.snapshot;
  guid = partial.header.to;
  time = partial.header.time;
  number = number;
  objects = partial.objects;
  redact = partial.header.redact;
}

-- the row of the dataset that one of an absent target makes
abbrev pub dataset_row_from : Partial → Dataset
dataset_row_from partial = record { name = partial.target; kind = partial.header.kind; origin = partial.base; head = partial.objects; redact = partial.header.redact }

-- the rows of datasets, of which the target has the objects and the redaction guids of its partial state; it is made where it is absent
abbrev pub rows_with_target : Partial → List Dataset → List Dataset
rows_with_target partial datasets =
    if is_some (position (λ dataset. bytes_eq dataset.name partial.target) datasets) then with_objects partial.target partial.objects partial.header.redact datasets
    else inserted (λ a b. is_before a.name b.name) (dataset_row_from partial) datasets

-- rows with the snapshot and the head that a partial state becomes, and without that
abbrev pub rows_with_finished : ℕ → Partial → Rows → Rows
rows_with_finished number partial rows = record rows {
  datasets = rows_with_target partial rows.datasets;
  snapshots = inserted snapshot_is_before (snapshot_row_from number partial) rows.snapshots;
  partials = filter (λ other. not (is_for partial.target other)) rows.partials;
}
