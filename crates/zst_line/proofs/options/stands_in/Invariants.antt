use Rattle.std.proofs.Common.{◌≡◌, false, map, take, string_bytes}
use Rattle.zst_line.specs.Grammar.{stands_in}
use Rattle.zst_line.proofs.options.stands_in.Given as goal

abbrev pub invariant-loop-other : goal.invariant-loop-other
invariant-loop-other l = stands_in (take l.other-index (map string_bytes l.words)) l.word ≡ false
