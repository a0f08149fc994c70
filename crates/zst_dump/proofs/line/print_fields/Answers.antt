use Rattle.zst_dump.specs.RecordLines.{fields_text}
use Rattle.zst_dump.proofs.line.print_fields.Goals as goal

pub returns : goal.returns
unfolding fields_text
returns g c = rw (c.from.ensures, c.from-2.ensures, c.from-3.ensures) at c.print.ensures
