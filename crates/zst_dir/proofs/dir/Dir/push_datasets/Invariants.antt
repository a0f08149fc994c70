use Rattle.zst_dir.proofs.SnapshotRuns.{IsLeft}
use Rattle.zst_dir.proofs.dir.Dir.push_datasets.Given as goal

abbrev pub invariant-loop-dataset : goal.invariant-loop-dataset
invariant-loop-dataset l = IsLeft l.self.snapshots l.fn.out.items l.dataset-items l.dataset-index l.out.items l.rest
