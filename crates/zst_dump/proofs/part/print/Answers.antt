use Rattle.std.proofs.Common.{[], refl}
use Rattle.zst_dump.specs.declared.part.Part.TheVariants as parts
use Rattle.zst_outside.specs.Printing.{Prints-stop, Printed-start}
use Rattle.zst_dump.specs.Parts.{part_text}
use Rattle.zst_dump.proofs.ListTexts.{flat_map-at, Printed-more, Prints-all}
use Rattle.zst_dump.proofs.part.print.Goals as goal

pub returns-in-Err : goal.returns-in-Err
returns-in-Err g c =
    rw (flat_map-at part_text c.args.parts.now c.loop-part.part-index (parts.Words (record { ref_ptr = (0, 0); now = [] })) c.loop-part-test.true)
    (Prints-stop _ _ _ _ _ _ c.in-Err.fault _ refl c.loop-part.invariant c.in-Err.ensures)

pub loop-part-init : goal.loop-part-init
loop-part-init g c = Printed-start _

pub loop-part-preserved : goal.loop-part-preserved
loop-part-preserved g c =
    Printed-more part_text c.args.parts.now c.loop-part.part-index (parts.Words (record { ref_ptr = (0, 0); now = [] })) _ _ _ c.loop-part-test.true c.loop-part.invariant (rw c.in_default.is at c.print_part.ensures.whole)

pub returns : goal.returns
returns g c = Prints-all part_text c.args.parts.now c.loop-part.part-index _ _ tt c.loop-part-test.false c.loop-part.invariant
