use Rattle.zst_outside.specs.Printing.{Prints-then, Prints-longer}
use Rattle.zst_dump.proofs.line.line_of.Goals as goal

pub returns-in_err-print_number : goal.returns-in_err-print_number
returns-in_err-print_number g c = Prints-longer _ _ _ _ _ _ c.from_residual.ensures.0 c.in_err-print_number.ensures

pub returns : goal.returns
returns g c = Prints-then _ _ _ _ _ _ c.in_ok-print_number.ensures.whole c.print_said.ensures
