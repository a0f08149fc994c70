use Rattle.std.proofs.Common.{refl}
use Rattle.zst_outside.specs.Printing.{Prints-stop, Printed-start}
use Rattle.zst_dump.specs.RecordLines.{blank_guid}
use Rattle.zst_dump.proofs.ListTexts.{flat_map-at, Printed-more, Prints-all}
use Rattle.zst_dump.proofs.line.print_each.Goals as goal

pub returns-in-Err : goal.returns-in-Err
returns-in-Err g c =
    rw (flat_map-at blank_guid c.args.guids.now c.loop-guid.guid-index 0 c.loop-guid-test.true)
    (Prints-stop _ _ _ _ _ _ c.in-Err.fault _ refl c.loop-guid.invariant c.in-Err.ensures)

pub loop-guid-init : goal.loop-guid-init
loop-guid-init g c = Printed-start _

pub loop-guid-preserved : goal.loop-guid-preserved
loop-guid-preserved g c =
    Printed-more blank_guid c.args.guids.now c.loop-guid.guid-index 0 _ _ _ c.loop-guid-test.true c.loop-guid.invariant (rw c.in_default.is at c.print.ensures.whole)

pub returns : goal.returns
returns g c = Prints-all blank_guid c.args.guids.now c.loop-guid.guid-index _ _ tt c.loop-guid-test.false c.loop-guid.invariant
