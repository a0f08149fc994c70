use Rattle.zst_outside.specs.Printing.{Prints-then, Prints-longer}
use Rattle.zst_dump.specs.RecordLines.{begin_text}
use Rattle.zst_dump.proofs.line.print_begin.Goals as goal

pub returns-in_err-print_fields : goal.returns-in_err-print_fields
unfolding begin_text
returns-in_err-print_fields g c = Prints-longer _ _ _ _ _ _ c.from_residual.ensures.0 c.in_err-print_fields.ensures

pub returns-in_err-print_resume : goal.returns-in_err-print_resume
unfolding begin_text
returns-in_err-print_resume g c =
    Prints-then _ _ _ _ _ _ c.in_ok-print_fields.ensures.whole
    (Prints-longer _ _ _ _ _ _ c.from_residual-in_err-print_resume.ensures.0 c.in_err-print_resume.ensures)

pub returns-in_err-print_guids : goal.returns-in_err-print_guids
unfolding begin_text
returns-in_err-print_guids g c =
    Prints-then _ _ _ _ _ _ c.in_ok-print_fields.ensures.whole
    (Prints-then _ _ _ _ _ _ c.in_ok-print_resume.ensures.whole
    (Prints-longer _ _ _ _ _ _ c.from_residual-in_err-print_guids.ensures.0 (rw c.as_slice.ensures.same at c.in_err-print_guids.ensures)))

pub returns-in_err-print_guids-2 : goal.returns-in_err-print_guids-2
unfolding begin_text
returns-in_err-print_guids-2 g c =
    Prints-then _ _ _ _ _ _ c.in_ok-print_fields.ensures.whole
    (Prints-then _ _ _ _ _ _ c.in_ok-print_resume.ensures.whole
    (Prints-then _ _ _ _ _ _ (rw c.as_slice.ensures.same at c.in_ok-print_guids.ensures.whole)
    (Prints-longer _ _ _ _ _ _ c.from_residual-in_err-print_guids-2.ensures.0 (rw c.as_slice-2.ensures.same at c.in_err-print_guids-2.ensures))))

pub returns : goal.returns
unfolding begin_text
returns g c =
    Prints-then _ _ _ _ _ _ c.in_ok-print_fields.ensures.whole
    (Prints-then _ _ _ _ _ _ c.in_ok-print_resume.ensures.whole
    (Prints-then _ _ _ _ _ _ (rw c.as_slice.ensures.same at c.in_ok-print_guids.ensures.whole)
    (Prints-then _ _ _ _ _ _ (rw c.as_slice-2.ensures.same at c.in_ok-print_guids-2.ensures.whole) (rw c.as_bytes.ensures.same at c.print_named.ensures))))
