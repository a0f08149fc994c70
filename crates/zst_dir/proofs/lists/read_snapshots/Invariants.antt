use Rattle.zst_dir.specs.RowReads.{IsSnapshotOf}
use Rattle.zst_dir.specs.Spelling.{snapshot_bytes}
use Rattle.zst_dir.proofs.Loops.{Reading}
use Rattle.zst_dir.proofs.lists.read_snapshots.Given as goal

abbrev pub invariant-loop : goal.invariant-loop
invariant-loop l = Reading snapshot_bytes (IsSnapshotOf l.dataset) l.fn.cursor l.fn.snapshots.items l.count l.counter l.snapshots.items l.cursor
