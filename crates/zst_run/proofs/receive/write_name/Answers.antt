use Rattle.std.proofs.Common.{◌≡◌}
use Rattle.zst_outside.specs.Printing.{Prints-then, Prints-longer}
use Rattle.zst_run.proofs.receive.write_name.Goals as goal

pub returns-in_err-write_all : goal.returns-in_err-write_all
returns-in_err-write_all g c =
    let same : c.as_bytes.result.now ≡ c.args.snapshot.now.target = cc in
    Prints-longer _ _ _ _ _ _ c.from_residual.ensures.0 (rw same at c.in_err-write_all.ensures)

pub returns-in_err-write_all-2 : goal.returns-in_err-write_all-2
returns-in_err-write_all-2 g c =
    let same : c.as_bytes.result.now ≡ c.args.snapshot.now.target = cc in
    Prints-then _ _ _ _ _ _ (rw same at c.in_ok-write_all.ensures.whole)
    (Prints-longer _ _ _ _ _ _ c.from_residual-in_err-write_all-2.ensures.0 c.in_err-write_all-2.ensures)

pub returns : goal.returns
returns g c =
    let same : c.as_bytes.result.now ≡ c.args.snapshot.now.target = cc in
    let last : c.as_bytes-2.result.now ≡ c.args.snapshot.now.component = cc in
    Prints-then _ _ _ _ _ _ (rw same at c.in_ok-write_all.ensures.whole) (Prints-then _ _ _ _ _ _ c.in_ok-write_all-2.ensures.whole (rw last at c.write_all-3.ensures))
