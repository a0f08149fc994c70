use Rattle.zst_dir.proofs.NestedSnapshots.{ReadingAll}
use Rattle.zst_dir.proofs.lists.read_datasets.Given as goal

abbrev pub invariant-loop : goal.invariant-loop
invariant-loop l = ReadingAll l.fn.cursor l.fn.datasets.items l.fn.snapshots.items l.count l.counter l.datasets.items l.snapshots.items l.cursor
