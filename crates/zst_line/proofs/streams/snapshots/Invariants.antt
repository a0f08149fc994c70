use Rattle.std.proofs.Common.{◌≡◌, map, take, string_bytes}
use Rattle.zst_line.proofs.streams.snapshots.Given as goal

abbrev pub invariant-loop-word : goal.invariant-loop-word
invariant-loop-word l = l.names.items ≡ take l.word-index (map string_bytes l.words)
