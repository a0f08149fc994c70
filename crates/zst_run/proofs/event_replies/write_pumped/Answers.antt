use Rattle.zst_outside.specs.Printing.{Prints-then, Prints-longer}
use Rattle.zst_run.proofs.EventLines.{as_pumped}
use Rattle.zst_run.proofs.event_replies.write_pumped.Goals as goal

pub returns-in_err-write_number : goal.returns-in_err-write_number
returns-in_err-write_number g c = as_pumped _ _ c.args.taken c.args.applied c.args.standing _ (Prints-longer _ _ _ _ _ _ c.from_residual.ensures.0 c.in_err-write_number.ensures)

pub returns-in_err-write_number-2 : goal.returns-in_err-write_number-2
returns-in_err-write_number-2 g c =
    as_pumped _ _ c.args.taken c.args.applied c.args.standing _
    (Prints-then _ _ _ _ _ _ c.in_ok-write_number.ensures.whole (Prints-longer _ _ _ _ _ _ c.from_residual-in_err-write_number-2.ensures.0 c.in_err-write_number-2.ensures))

pub returns-in_err-write_standing : goal.returns-in_err-write_standing
returns-in_err-write_standing g c =
    as_pumped _ _ c.args.taken c.args.applied c.args.standing _
    (Prints-then _ _ _ _ _ _ c.in_ok-write_number.ensures.whole
    (Prints-then _ _ _ _ _ _ c.in_ok-write_number-2.ensures.whole
    (Prints-longer _ _ _ _ _ _ c.from_residual-in_err-write_standing.ensures.0 c.in_err-write_standing.ensures)))

pub returns : goal.returns
returns g c =
    as_pumped _ _ c.args.taken c.args.applied c.args.standing _
    (Prints-then _ _ _ _ _ _ c.in_ok-write_number.ensures.whole
    (Prints-then _ _ _ _ _ _ c.in_ok-write_number-2.ensures.whole
    (Prints-then _ _ _ _ _ _ c.in_ok-write_standing.ensures.whole c.write_all.ensures)))
