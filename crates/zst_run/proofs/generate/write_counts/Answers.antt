use Rattle.zst_outside.specs.Printing.{Prints-then, Prints-longer}
use Rattle.zst_run.proofs.GeneratorLine.{as_line}
use Rattle.zst_run.proofs.generate.write_counts.Goals as goal

pub returns-in_err-write_number : goal.returns-in_err-write_number
returns-in_err-write_number g c =
    as_line _ _ c.args.steps c.args.number _ (Prints-longer _ _ _ _ _ _ c.from_residual.ensures.0 c.in_err-write_number.ensures)

pub returns-in_err-write_number-2 : goal.returns-in_err-write_number-2
returns-in_err-write_number-2 g c =
    as_line _ _ c.args.steps c.args.number _
    (Prints-then _ _ _ _ _ _ c.in_ok-write_number.ensures.whole (Prints-longer _ _ _ _ _ _ c.from_residual-in_err-write_number-2.ensures.0 c.in_err-write_number-2.ensures))

pub returns-in_err-write_number-3 : goal.returns-in_err-write_number-3
returns-in_err-write_number-3 g c =
    as_line _ _ c.args.steps c.args.number _
    (Prints-then _ _ _ _ _ _ c.in_ok-write_number.ensures.whole
    (Prints-then _ _ _ _ _ _ c.in_ok-write_number-2.ensures.whole (Prints-longer _ _ _ _ _ _ c.from_residual-in_err-write_number-3.ensures.0 c.in_err-write_number-3.ensures)))

pub returns-in_err-write_number-4 : goal.returns-in_err-write_number-4
returns-in_err-write_number-4 g c =
    as_line _ _ c.args.steps c.args.number _
    (Prints-then _ _ _ _ _ _ c.in_ok-write_number.ensures.whole
    (Prints-then _ _ _ _ _ _ c.in_ok-write_number-2.ensures.whole
    (Prints-then _ _ _ _ _ _ c.in_ok-write_number-3.ensures.whole (Prints-longer _ _ _ _ _ _ c.from_residual-in_err-write_number-4.ensures.0 c.in_err-write_number-4.ensures))))

pub returns-in_err-write_number-5 : goal.returns-in_err-write_number-5
returns-in_err-write_number-5 g c =
    as_line _ _ c.args.steps c.args.number _
    (Prints-then _ _ _ _ _ _ c.in_ok-write_number.ensures.whole
    (Prints-then _ _ _ _ _ _ c.in_ok-write_number-2.ensures.whole
    (Prints-then _ _ _ _ _ _ c.in_ok-write_number-3.ensures.whole
    (Prints-then _ _ _ _ _ _ c.in_ok-write_number-4.ensures.whole (Prints-longer _ _ _ _ _ _ c.from_residual-in_err-write_number-5.ensures.0 c.in_err-write_number-5.ensures)))))

pub returns : goal.returns
returns g c =
    as_line _ _ c.args.steps c.args.number _
    (Prints-then _ _ _ _ _ _ c.in_ok-write_number.ensures.whole
    (Prints-then _ _ _ _ _ _ c.in_ok-write_number-2.ensures.whole
    (Prints-then _ _ _ _ _ _ c.in_ok-write_number-3.ensures.whole
    (Prints-then _ _ _ _ _ _ c.in_ok-write_number-4.ensures.whole (Prints-then _ _ _ _ _ _ c.in_ok-write_number-5.ensures.whole c.write_all.ensures)))))
