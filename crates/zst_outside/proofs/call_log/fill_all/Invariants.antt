use Rattle.std.proofs.Common.{take}
use Rattle.zst_outside.specs.CallLog.{IsImage, IsFilled}
use Rattle.zst_outside.proofs.call_log.fill_all.Given as goal

abbrev pub invariant-loop-range : goal.invariant-loop-range
invariant-loop-range l = record {
  others : IsImage l.ranges l.initial.bytes.items l.bytes.items;
  filled : IsFilled (take l.range-index l.ranges) l.fill l.bytes.items;
}
