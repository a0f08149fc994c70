use Rattle.std.proofs.Common.{take, flat_map}
use Rattle.zst_outside.specs.Printing.{Printed}
use Rattle.zst_dump.specs.Parts.{part_text}
use Rattle.zst_dump.proofs.part.print.Given as goal

-- what came before is written
abbrev pub invariant-loop-part : goal.invariant-loop-part
invariant-loop-part g l =
    let sink = g.K.Sink in
    Printed (sink.state l.fn.out) (sink.state l.out) (flat_map part_text (take l.part-index l.parts))
