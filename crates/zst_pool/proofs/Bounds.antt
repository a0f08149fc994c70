-- What is known of sets up to a number is known up to each later one.
use Rattle.std.proofs.Common.{ℕ, ◌≤◌, Bool, true, false}
use Rattle.zst_model.specs.states.DatedState.{DatedState}
use Rattle.zst_model.specs.pools.Pool.{Pool}
use Rattle.zst_model.specs.pools.Pool as plain
use Rattle.zst_model.proofs.DatedStates.{dated_higher}
use Rattle.zst_tree.specs.Indices.{Blocks}
use Rattle.zst_tree.specs.declared.tree.ObjSet.{ObjSet}
use Rattle.zst_dir.specs.Rows.{Rows}
use Rattle.zst_dir.specs.declared.rows.Dataset.{Dataset}
use Rattle.zst_dir.specs.declared.rows.Snapshot.{Snapshot}
use Rattle.zst_dir.specs.declared.rows.Partial.{Partial}
use Rattle.zst_image.specs.Reads.{DatasetIs, SnapshotIs, PartialIs, RunsBy, SetIs, bound_of}
use Rattle.zst_image.proofs.Growth.{Match-weaker}

module _ (tight : Bool) (number more : ℕ) (later : number ≤ more) (has : Blocks) where
  pub SetIs-later : (set : ObjSet) (state : DatedState) → SetIs (bound_of tight number) has set state → SetIs (bound_of tight more) has set state
  SetIs-later set state is = go tight is
    where
      go : (b : Bool) → SetIs (bound_of b number) has set state → SetIs (bound_of b more) has set state
      go true is = (is.0, dated_higher number more later state is.1)
      go false is = is

  DatasetIs-later : (row : Dataset) (dataset : plain.Dataset) → DatasetIs (bound_of tight number) has row dataset → DatasetIs (bound_of tight more) has row dataset
  DatasetIs-later row dataset is = record { named = is.named; head = SetIs-later row.head dataset.head is.head }

  SnapshotIs-later : (row : Snapshot) (snapshot : plain.Snapshot) → SnapshotIs (bound_of tight number) has row snapshot → SnapshotIs (bound_of tight more) has row snapshot
  SnapshotIs-later row snapshot is = record { named = is.named; objects = SetIs-later row.objects snapshot.objects is.objects }

  PartialIs-later : (row : Partial) (partial : plain.Partial) → PartialIs (bound_of tight number) has row partial → PartialIs (bound_of tight more) has row partial
  PartialIs-later row partial is = record { named = is.named; objects = SetIs-later row.objects partial.objects is.objects }

  pub RunsBy-later : (rows : Rows) (pool : Pool) → RunsBy (bound_of tight number) has rows pool → RunsBy (bound_of tight more) has rows pool
  RunsBy-later rows pool is = record {
    datasets = Match-weaker (DatasetIs (bound_of tight number) has) (DatasetIs (bound_of tight more) has) DatasetIs-later rows.datasets pool.datasets is.datasets;
    snapshots = Match-weaker (SnapshotIs (bound_of tight number) has) (SnapshotIs (bound_of tight more) has) SnapshotIs-later rows.snapshots pool.snapshots is.snapshots;
    bookmarks = is.bookmarks;
    partials = Match-weaker (PartialIs (bound_of tight number) has) (PartialIs (bound_of tight more) has) PartialIs-later rows.partials pool.partials is.partials;
  }
