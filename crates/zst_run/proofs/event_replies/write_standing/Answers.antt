use Rattle.zst_outside.specs.Printing.{Prints-then, Prints-longer}
use Rattle.zst_run.proofs.event_replies.write_standing.Goals as goal

pub returns-in_err-write_number-in-Point : goal.returns-in_err-write_number-in-Point
returns-in_err-write_number-in-Point g c = rw c.in-Point.is (Prints-longer _ _ _ _ _ _ c.from_residual.ensures.0 c.in_err-write_number-in-Point.ensures)

pub returns-in_ok-write_number-in-Point : goal.returns-in_ok-write_number-in-Point
returns-in_ok-write_number-in-Point g c = rw c.in-Point.is (Prints-then _ _ _ _ _ _ c.in_ok-write_number-in-Point.ensures.whole c.write_number-in-Point.ensures)
