use Rattle.std.specs.Prelude.{decimal}
use Rattle.std.proofs.Common.{◌≡◌}
use Rattle.zst_outside.specs.Printing.{Prints-then, Prints-longer}
use Rattle.zst_model.specs.refusals.Texts.{guid_text}
use Rattle.zst_run.proofs.ReceiptLine.{as_line}
use Rattle.zst_run.proofs.receive.write_receipt.Goals as goal

pub returns-in_err-write_all : goal.returns-in_err-write_all
returns-in_err-write_all g c = as_line _ _ c.args.receipt.now _ (Prints-longer _ _ _ _ _ _ c.from_residual.ensures.0 c.in_err-write_all.ensures)

pub returns-in_err-write_name : goal.returns-in_err-write_name
returns-in_err-write_name g c =
    as_line _ _ c.args.receipt.now _
    (Prints-then _ _ _ _ _ _ c.in_ok-write_all.ensures.whole (Prints-longer _ _ _ _ _ _ c.from_residual-in_err-write_name.ensures.0 c.in_err-write_name.ensures))

pub returns-in_err-write_both : goal.returns-in_err-write_both
returns-in_err-write_both g c =
    let guid : c.as_bytes.result.now ≡ guid_text c.args.receipt.now.snapshot.guid = cc in
    as_line _ _ c.args.receipt.now _
    (Prints-then _ _ _ _ _ _ c.in_ok-write_all.ensures.whole
    (Prints-then _ _ _ _ _ _ c.in_ok-write_name.ensures.whole
    (Prints-longer _ _ _ _ _ _ c.from_residual-in_err-write_both.ensures.0 (rw guid at c.in_err-write_both.ensures))))

pub returns-in_err-write_both-2 : goal.returns-in_err-write_both-2
returns-in_err-write_both-2 g c =
    let guid : c.as_bytes.result.now ≡ guid_text c.args.receipt.now.snapshot.guid = cc in
    let items : c.as_bytes-2.result.now ≡ decimal c.args.receipt.now.items = cc in
    as_line _ _ c.args.receipt.now _
    (Prints-then _ _ _ _ _ _ c.in_ok-write_all.ensures.whole
    (Prints-then _ _ _ _ _ _ c.in_ok-write_name.ensures.whole
    (Prints-then _ _ _ _ _ _ (rw guid at c.in_ok-write_both.ensures.whole)
    (Prints-longer _ _ _ _ _ _ c.from_residual-in_err-write_both-2.ensures.0 (rw items at c.in_err-write_both-2.ensures)))))

pub returns : goal.returns
returns g c =
    let guid : c.as_bytes.result.now ≡ guid_text c.args.receipt.now.snapshot.guid = cc in
    let items : c.as_bytes-2.result.now ≡ decimal c.args.receipt.now.items = cc in
    as_line _ _ c.args.receipt.now _
    (Prints-then _ _ _ _ _ _ c.in_ok-write_all.ensures.whole
    (Prints-then _ _ _ _ _ _ c.in_ok-write_name.ensures.whole
    (Prints-then _ _ _ _ _ _ (rw guid at c.in_ok-write_both.ensures.whole)
    (Prints-then _ _ _ _ _ _ (rw items at c.in_ok-write_both-2.ensures.whole)
    c.write_all-2.ensures))))
