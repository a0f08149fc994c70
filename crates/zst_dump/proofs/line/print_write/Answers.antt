use Rattle.zst_dump.specs.RecordLines.{write_text}
use Rattle.zst_dump.proofs.line.print_write.Goals as goal

pub returns : goal.returns
unfolding write_text
returns g c = rw c.from.ensures at c.print.ensures
