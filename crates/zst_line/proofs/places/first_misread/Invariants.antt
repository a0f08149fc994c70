use Rattle.std.proofs.Common.{map, string_bytes}
use Rattle.zst_line.proofs.WordWalk.{Named}
use Rattle.zst_line.proofs.places.first_misread.Given as goal

abbrev pub invariant-loop-index : goal.invariant-loop-index
invariant-loop-index l = Named l.slots (map string_bytes l.words) l.index
