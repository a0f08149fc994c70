use Rattle.std.proofs.Common.{sym, ◌∙◌}
use Rattle.zst_outside.specs.Printing.{Prints-then, Prints-longer}
use Rattle.zst_dump.specs.RecordLines.{guids_text}
use Rattle.zst_dump.proofs.line.print_guids.Goals as goal

pub returns-in_err-write_all : goal.returns-in_err-write_all
unfolding guids_text
returns-in_err-write_all g c =
    rw (sym c.is_empty.ensures ∙ c.if-is_empty.false)
    (Prints-longer _ _ c.args.word.now _ _ _ c.from_residual.ensures.0 c.in_err-write_all.ensures)

pub returns : goal.returns
unfolding guids_text
returns g c =
    rw (sym c.is_empty.ensures ∙ c.if-is_empty.false)
    (Prints-then _ _ _ c.args.word.now _ _ c.in_ok-write_all.ensures.whole c.print_each.ensures)
