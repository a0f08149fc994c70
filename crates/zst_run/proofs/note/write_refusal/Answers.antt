use Rattle.zst_outside.specs.Printing.{Prints-then, Prints-longer}
use Rattle.zst_run.proofs.RefusalLines.{as_refusal}
use Rattle.zst_run.proofs.note.write_refusal.Goals as goal

pub returns-in_err-write_all : goal.returns-in_err-write_all
returns-in_err-write_all g c =
    as_refusal _ _ c.args.refusal.now _
    (Prints-longer _ _ _ _ _ _ c.from_residual.ensures.0 c.in_err-write_all.ensures)

pub returns-in_err-write_number : goal.returns-in_err-write_number
returns-in_err-write_number g c =
    as_refusal _ _ c.args.refusal.now _
    (Prints-then _ _ _ _ _ _ c.in_ok-write_all.ensures.whole
    (Prints-longer _ _ _ _ _ _ c.from_residual-in_err-write_number.ensures.0 (rw c.number.ensures at c.in_err-write_number.ensures)))

pub returns-in_err-write_all-2 : goal.returns-in_err-write_all-2
returns-in_err-write_all-2 g c =
    as_refusal _ _ c.args.refusal.now _
    (Prints-then _ _ _ _ _ _ c.in_ok-write_all.ensures.whole
    (Prints-then _ _ _ _ _ _ (rw c.number.ensures at c.in_ok-write_number.ensures.whole)
    (Prints-longer _ _ _ _ _ _ c.from_residual-in_err-write_all-2.ensures.0 c.in_err-write_all-2.ensures)))

pub returns-in_err-write_text : goal.returns-in_err-write_text
returns-in_err-write_text g c =
    as_refusal _ _ c.args.refusal.now _
    (Prints-then _ _ _ _ _ _ c.in_ok-write_all.ensures.whole
    (Prints-then _ _ _ _ _ _ (rw c.number.ensures at c.in_ok-write_number.ensures.whole)
    (Prints-then _ _ _ _ _ _ c.in_ok-write_all-2.ensures.whole
    (Prints-longer _ _ _ _ _ _ c.from_residual-in_err-write_text.ensures.0 c.in_err-write_text.ensures))))

pub returns : goal.returns
returns g c =
    as_refusal _ _ c.args.refusal.now _
    (Prints-then _ _ _ _ _ _ c.in_ok-write_all.ensures.whole
    (Prints-then _ _ _ _ _ _ (rw c.number.ensures at c.in_ok-write_number.ensures.whole)
    (Prints-then _ _ _ _ _ _ c.in_ok-write_all-2.ensures.whole
    (Prints-then _ _ _ _ _ _ c.in_ok-write_text.ensures.whole
    c.write_all-3.ensures))))
