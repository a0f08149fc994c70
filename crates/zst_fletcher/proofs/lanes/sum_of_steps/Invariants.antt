use Rattle.std.proofs.Common.{◌≡◌, ◌*◌, take}
use Rattle.zst_fletcher.specs.WeightSum.{words}
use Rattle.zst_fletcher.specs.Pairs.{pairs_of}
use Rattle.zst_fletcher.proofs.lanes.sum_of_steps.Given as goal

-- the steps so far were added
abbrev pub invariant-loop-step : goal.invariant-loop-step
invariant-loop-step l = l.pairs ≡ pairs_of (words (take (128 * l.step) l.bytes))
