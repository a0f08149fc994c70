use Rattle.std.proofs.Common.{refl}
use Rattle.zst_outside.specs.Printing.{Prints-stop, Printed-start}
use Rattle.zst_dump.specs.Parts.{escaped}
use Rattle.zst_dump.proofs.ListTexts.{flat_map-at, Printed-more, Prints-all}
use Rattle.zst_dump.proofs.part.print_name.Goals as goal

pub returns-in-Err : goal.returns-in-Err
returns-in-Err g c =
    rw (flat_map-at escaped c.args.name.now c.loop-byte.byte-index 0 c.loop-byte-test.true)
    (Prints-stop _ _ _ _ _ _ c.in-Err.fault _ refl c.loop-byte.invariant c.in-Err.ensures)

pub loop-byte-init : goal.loop-byte-init
loop-byte-init g c = Printed-start _

pub loop-byte-preserved : goal.loop-byte-preserved
loop-byte-preserved g c =
    Printed-more escaped c.args.name.now c.loop-byte.byte-index 0 _ _ _ c.loop-byte-test.true c.loop-byte.invariant (rw c.in_default.is at c.print_byte.ensures.whole)

pub returns : goal.returns
returns g c = Prints-all escaped c.args.name.now c.loop-byte.byte-index _ _ tt c.loop-byte-test.false c.loop-byte.invariant
