use Rattle.std.proofs.Common.{map, length, arith, ◌≡◌}
use Rattle.std.proofs.lemmas.List.{length-map}
use Rattle.std.specs.String.{string_bytes}
use Rattle.zst_line.proofs.WordWalk.{stops_behind}
use Rattle.zst_line.proofs.places.first_misplaced.Goals as goal

pub returns-then-words-slots-clause-place : goal.returns-then-words-slots-clause-place
returns-then-words-slots-clause-place c =
    let at_end : c.loop-index.index ≡ length c.args.slots.now = omega arith in
    stops_behind c.args.slots.now (map string_bytes c.args.words.now) (simp length-map (omega arith))
    (rw at_end at c.loop-index.invariant)
