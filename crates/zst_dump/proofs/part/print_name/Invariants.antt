use Rattle.std.proofs.Common.{take, flat_map}
use Rattle.zst_outside.specs.Printing.{Printed}
use Rattle.zst_dump.specs.Parts.{escaped}
use Rattle.zst_dump.proofs.part.print_name.Given as goal

-- what came before is written
abbrev pub invariant-loop-byte : goal.invariant-loop-byte
invariant-loop-byte g l =
    let sink = g.K.Sink in
    Printed (sink.state l.fn.out) (sink.state l.out) (flat_map escaped (take l.byte-index l.name))
