use Rattle.std.proofs.Common.{◌≡◌}
use Rattle.zst_outside.specs.Printing.{Prints-then, Prints-longer}
use Rattle.zst_run.proofs.ReportLines.{as_place}
use Rattle.zst_run.proofs.reports.write_place.Goals as goal

pub returns-in_err-write_all : goal.returns-in_err-write_all
returns-in_err-write_all g c = as_place _ _ c.args.earlier.now c.args.later.now c.args.object c.args.block _ (Prints-longer _ _ _ _ _ _ c.from_residual.ensures.0 c.in_err-write_all.ensures)

pub returns-in_err-write_all-2 : goal.returns-in_err-write_all-2
returns-in_err-write_all-2 g c =
    let first : c.as_bytes.result.now ≡ c.args.earlier.now = cc in
    as_place _ _ c.args.earlier.now c.args.later.now c.args.object c.args.block _
    (Prints-then _ _ _ _ _ _ c.in_ok-write_all.ensures.whole (Prints-longer _ _ _ _ _ _ c.from_residual-in_err-write_all-2.ensures.0 (rw first at c.in_err-write_all-2.ensures)))

pub returns-in_err-write_all-3 : goal.returns-in_err-write_all-3
returns-in_err-write_all-3 g c =
    let first : c.as_bytes.result.now ≡ c.args.earlier.now = cc in
    as_place _ _ c.args.earlier.now c.args.later.now c.args.object c.args.block _
    (Prints-then _ _ _ _ _ _ c.in_ok-write_all.ensures.whole (Prints-then _ _ _ _ _ _ (rw first at c.in_ok-write_all-2.ensures.whole)
    (Prints-longer _ _ _ _ _ _ c.from_residual-in_err-write_all-3.ensures.0 c.in_err-write_all-3.ensures)))

pub returns-in_err-write_all-4 : goal.returns-in_err-write_all-4
returns-in_err-write_all-4 g c =
    let first : c.as_bytes.result.now ≡ c.args.earlier.now = cc in
    let second : c.as_bytes-2.result.now ≡ c.args.later.now = cc in
    as_place _ _ c.args.earlier.now c.args.later.now c.args.object c.args.block _
    (Prints-then _ _ _ _ _ _ c.in_ok-write_all.ensures.whole (Prints-then _ _ _ _ _ _ (rw first at c.in_ok-write_all-2.ensures.whole)
    (Prints-then _ _ _ _ _ _ c.in_ok-write_all-3.ensures.whole
    (Prints-longer _ _ _ _ _ _ c.from_residual-in_err-write_all-4.ensures.0 (rw second at c.in_err-write_all-4.ensures)))))

pub returns-in_err-write_number : goal.returns-in_err-write_number
returns-in_err-write_number g c =
    let first : c.as_bytes.result.now ≡ c.args.earlier.now = cc in
    let second : c.as_bytes-2.result.now ≡ c.args.later.now = cc in
    as_place _ _ c.args.earlier.now c.args.later.now c.args.object c.args.block _
    (Prints-then _ _ _ _ _ _ c.in_ok-write_all.ensures.whole (Prints-then _ _ _ _ _ _ (rw first at c.in_ok-write_all-2.ensures.whole)
    (Prints-then _ _ _ _ _ _ c.in_ok-write_all-3.ensures.whole (Prints-then _ _ _ _ _ _ (rw second at c.in_ok-write_all-4.ensures.whole)
    (Prints-longer _ _ _ _ _ _ c.from_residual-in_err-write_number.ensures.0 c.in_err-write_number.ensures)))))

pub returns : goal.returns
returns g c =
    let first : c.as_bytes.result.now ≡ c.args.earlier.now = cc in
    let second : c.as_bytes-2.result.now ≡ c.args.later.now = cc in
    as_place _ _ c.args.earlier.now c.args.later.now c.args.object c.args.block _
    (Prints-then _ _ _ _ _ _ c.in_ok-write_all.ensures.whole (Prints-then _ _ _ _ _ _ (rw first at c.in_ok-write_all-2.ensures.whole)
    (Prints-then _ _ _ _ _ _ c.in_ok-write_all-3.ensures.whole (Prints-then _ _ _ _ _ _ (rw second at c.in_ok-write_all-4.ensures.whole)
    (Prints-then _ _ _ _ _ _ c.in_ok-write_number.ensures.whole c.write_number-2.ensures)))))
