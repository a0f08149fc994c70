use Rattle.zst_dir.specs.Spelling.{snapshot_bytes}
use Rattle.zst_dir.proofs.SpelledRows.{SpelledUpTo}
use Rattle.zst_dir.proofs.encoding.push_snapshots.Given as goal

abbrev pub invariant-loop-snapshot : goal.invariant-loop-snapshot
invariant-loop-snapshot l = SpelledUpTo snapshot_bytes l.fn.out.items l.snapshots l.snapshot-index l.out.items
