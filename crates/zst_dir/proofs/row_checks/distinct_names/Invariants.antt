use Rattle.std.proofs.Common.{take}
use Rattle.zst_dir.proofs.Namesets.{Collected}
use Rattle.zst_dir.proofs.row_checks.distinct_names.Given as goal

abbrev pub invariant-loop-snapshot : goal.invariant-loop-snapshot
invariant-loop-snapshot l = Collected (take l.snapshot-index l.snapshots) l.names
