use Rattle.zst_dump.specs.Summary.{summary_text}
use Rattle.zst_dump.proofs.line.summary.Goals as goal

pub returns : goal.returns
unfolding summary_text
returns g c = rw c.records.ensures at c.print.ensures
