use Rattle.std.proofs.Common.{◌≡◌, drop}
use Rattle.zst_space.specs.FreeSectors.{greatest}
use Rattle.zst_space.proofs.space.greatest_of.Given as goal

abbrev pub invariant-loop-extent : goal.invariant-loop-extent
invariant-loop-extent l = greatest (drop l.extent-index l.extents) l.largest ≡ greatest l.extents l.initial.largest
