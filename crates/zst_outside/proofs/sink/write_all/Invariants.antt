use Rattle.std.proofs.Common.{◌≡◌, length}
use Rattle.zst_outside.specs.Printing.{Wrote}
use Rattle.zst_outside.proofs.sink.write_all.Given as goal

-- a front was written, and no fault was counted
abbrev pub invariant-loop-rest : goal.invariant-loop-rest
invariant-loop-rest g l =
    let sink = g.K.Sink in
    Wrote (sink.state l.fn.out) (sink.state l.out) l.fn.text l.rest × ((sink.state l.out).faults ≡ (sink.state l.fn.out).faults)

abbrev pub decreases-loop-rest : goal.decreases-loop-rest
decreases-loop-rest g l = length l.rest
