use Rattle.zst_outside.specs.Printing.{Prints-then, Prints-longer}
use Rattle.std.proofs.Common.{◌≡◌}
use Rattle.std.specs.Prelude.{decimal}
use Rattle.zst_run.proofs.reply.write_number.Goals as goal

pub returns-in_err-write_all : goal.returns-in_err-write_all
returns-in_err-write_all g c = Prints-longer _ _ _ _ _ _ c.from_residual.ensures.0 c.in_err-write_all.ensures

pub returns : goal.returns
returns g c =
    let digits : c.as_bytes.result.now ≡ decimal c.args.number = cc in
    Prints-then _ _ _ _ _ _ c.in_ok-write_all.ensures.whole (rw digits at c.write_all-2.ensures)
