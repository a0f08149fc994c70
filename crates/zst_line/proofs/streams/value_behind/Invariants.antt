use Rattle.std.proofs.Common.{◌≡◌, map, drop, string_bytes}
use Rattle.zst_line.specs.Line.{value_behind}
use Rattle.zst_line.proofs.streams.value_behind.Given as goal

abbrev pub invariant-loop-index : goal.invariant-loop-index
invariant-loop-index l = value_behind l.option (map string_bytes l.words) ≡ value_behind l.option (drop l.index (map string_bytes l.words))
