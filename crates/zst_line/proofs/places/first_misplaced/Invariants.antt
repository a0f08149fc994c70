use Rattle.std.proofs.Common.{map}
use Rattle.std.specs.String.{string_bytes}
use Rattle.zst_line.proofs.WordWalk.{Decided}
use Rattle.zst_line.proofs.places.first_misplaced.Given as goal

abbrev pub invariant-loop-index : goal.invariant-loop-index
invariant-loop-index l = Decided l.slots (map string_bytes l.words) l.index
