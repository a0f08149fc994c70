use Rattle.zst_dump.specs.RecordLines.{object_text}
use Rattle.zst_dump.proofs.line.print_object.Goals as goal

pub returns : goal.returns
unfolding object_text
returns g c = rw (c.from.ensures, c.from-2.ensures, c.from-3.ensures, c.from-4.ensures) at c.print.ensures
