use Rattle.std.proofs.Common.{sym}
use Rattle.zst_check.proofs.Origins.{its_base, no_base, rows_differ, snapshot_found}
use Rattle.zst_check.proofs.nearest.base_of.Goals as goal

pub returns-in_err-as_ref : goal.returns-in_err-as_ref
returns-in_err-as_ref c = λ pool partial base are named names.
    rw c.from_residual.ensures (λ is. no_base c.args.dir.now pool are c.args.row.now partial names (sym c.in_err-as_ref.ensures.value) base is, λ at. absurd at)

pub returns : goal.returns
returns c = λ pool partial base are named names.
    let its = its_base c.args.dir.now pool are c.args.row.now partial names c.in_ok-as_ref.field-0.now (sym c.in_ok-as_ref.ensures.value) base in
    let at = snapshot_found c.args.dir.now pool are (rows_differ c.args.dir.now pool are named.snapshots_differ) c.in_ok-as_ref.field-0.now c.snapshot.result c.snapshot.ensures base in
    (λ is. at.0 (its.0 is), λ there. its.1 (at.1 there))
