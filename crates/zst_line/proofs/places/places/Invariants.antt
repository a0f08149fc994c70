use Rattle.std.proofs.Common.{[], ◌≡◌, ◌-◌, ◌++◌, None, length, map, string_bytes}
use Rattle.zst_line.specs.Grammar.{places_behind}
use Rattle.zst_line.proofs.OptionWalk.{behind}
use Rattle.zst_line.proofs.places.places.Given as goal

abbrev pub invariant-loop-taking : goal.invariant-loop-taking
invariant-loop-taking l =
    places_behind l.kind [] None (map string_bytes l.words) ≡ l.places.items ++ behind l.kind (map string_bytes l.words) (length l.places.items)

abbrev pub decreases-loop-taking : goal.decreases-loop-taking
decreases-loop-taking l = length l.words - length l.places.items
