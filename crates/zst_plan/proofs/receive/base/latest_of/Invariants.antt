use Rattle.std.proofs.Common.{◌<◌, length, IfSome, bytes_eq}
use Rattle.zst_dir.specs.RowNames.{AreNamed}
use Rattle.zst_model.specs.pools.Pool.{Pool, dataset_of_snapshot}
use Rattle.zst_plan.specs.Places.{FindAlike, StandsAt}
use Rattle.zst_plan.proofs.LatestSnapshots.{latest_in}
use Rattle.zst_plan.proofs.receive.base.latest_of.Given as goal

-- the place so far is one of the directory, and that of the latest of the snapshots so far
abbrev pub invariant-loop-place : goal.invariant-loop-place
invariant-loop-place l = record {
  inside : IfSome l.latest (λ place. place < length l.dir.snapshots);
  latest : (pool : Pool) → AreNamed l.dir pool → FindAlike (StandsAt l.dir.snapshots pool.snapshots) l.latest (latest_in (λ snapshot. bytes_eq (dataset_of_snapshot snapshot) l.name) pool.snapshots l.place);
}
