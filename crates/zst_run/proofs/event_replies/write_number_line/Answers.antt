use Rattle.zst_outside.specs.Printing.{Prints-then, Prints-longer}
use Rattle.zst_run.proofs.event_replies.write_number_line.Goals as goal

pub returns-in_err-write_number : goal.returns-in_err-write_number
returns-in_err-write_number g c = Prints-longer _ _ _ _ _ _ c.from_residual.ensures.0 c.in_err-write_number.ensures

pub returns : goal.returns
returns g c = Prints-then _ _ _ _ _ _ c.in_ok-write_number.ensures.whole c.write_all.ensures
