use Rattle.std.proofs.Common.{◌≡◌, ◌≤◌, length, drop}
use Rattle.zst_outside.specs.CallLog.{bytes_before}
use Rattle.zst_outside.proofs.call_log.undo_all.Given as goal

abbrev pub invariant-loop-left : goal.invariant-loop-left
invariant-loop-left l = record {
  within : l.left ≤ length l.log;
  undone_so_far : l.bytes.items ≡ bytes_before (drop l.left l.log) l.initial.bytes.items;
}

abbrev pub decreases-loop-left : goal.decreases-loop-left
decreases-loop-left l = l.left
