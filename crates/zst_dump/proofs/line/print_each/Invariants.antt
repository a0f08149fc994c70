use Rattle.std.proofs.Common.{take, flat_map}
use Rattle.zst_outside.specs.Printing.{Printed}
use Rattle.zst_dump.specs.RecordLines.{blank_guid}
use Rattle.zst_dump.proofs.line.print_each.Given as goal

-- what came before is written
abbrev pub invariant-loop-guid : goal.invariant-loop-guid
invariant-loop-guid g l =
    let sink = g.K.Sink in
    Printed (sink.state l.fn.out) (sink.state l.out) (flat_map blank_guid (take l.guid-index l.guids))
