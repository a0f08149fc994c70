use Rattle.zst_outside.specs.Printing.{Prints-then, Prints-longer}
use Rattle.zst_run.proofs.RefusalLines.{as_note}
use Rattle.zst_run.proofs.note.write_note.Goals as goal

pub returns-in_err-write_all : goal.returns-in_err-write_all
returns-in_err-write_all g c = as_note _ _ c.args.refusal.now _ (Prints-longer _ _ _ _ _ _ c.from_residual.ensures.0 c.in_err-write_all.ensures)

pub returns : goal.returns
returns g c = as_note _ _ c.args.refusal.now _ (Prints-then _ _ _ _ _ _ c.in_ok-write_all.ensures.whole c.write_refusal.ensures)
