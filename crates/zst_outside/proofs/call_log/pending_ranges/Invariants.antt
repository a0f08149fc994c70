use Rattle.std.proofs.Common.{◌≡◌, take, []}
use Rattle.zst_outside.specs.CallLog.{pending}
use Rattle.zst_outside.proofs.call_log.pending_ranges.Given as goal

abbrev pub invariant-loop-entry : goal.invariant-loop-entry
invariant-loop-entry l = l.ranges.items ≡ pending [] (take l.entry-index l.log)
