use Rattle.std.proofs.Common.{List, get_or, sym, ap, ◌∙◌}
use Rattle.zst_dir.specs.declared.rows.Dataset.{Dataset}
use Rattle.zst_check.proofs.Origins.{no_dataset, no_origin, its_origin, snapshot_found}
use Rattle.zst_check.proofs.nearest.origin_of.Goals as goal

pub returns-in_err-dataset-clause-origin : goal.returns-in_err-dataset-clause-origin
returns-in_err-dataset-clause-origin c = λ pool origin are.
    rw c.from_residual.ensures (λ is. no_dataset c.args.dir.now pool c.datasets.ensures.lawful are c.args.dataset.now (sym c.in_err-dataset.ensures) origin is, λ at. absurd at)

pub returns-in_err-as_ref-clause-origin : goal.returns-in_err-as_ref-clause-origin
returns-in_err-as_ref-clause-origin c = λ pool origin are.
    rw c.from_residual-in_err-as_ref.ensures (
      λ is.
          no_origin c.args.dir.now pool c.datasets.ensures.lawful are c.args.dataset.now c.in_ok-dataset.field-0 (sym c.in_ok-dataset.ensures) c.in_ok-row.row.now
          (c.in_ok-row.ensures.lookup.1 ∙ ap (λ (rows : List Dataset). get_or rows c.in_ok-dataset.field-0 c.in_ok-row.row.now) c.datasets.ensures.same)
          (sym c.in_err-as_ref.ensures.value) origin is,
      λ at. absurd at,
    )

pub returns-clause-origin : goal.returns-clause-origin
returns-clause-origin c = λ pool origin are.
    let its =
    its_origin c.args.dir.now pool c.datasets.ensures.lawful are c.args.dataset.now c.in_ok-dataset.field-0 (sym c.in_ok-dataset.ensures) c.in_ok-row.row.now
    (c.in_ok-row.ensures.lookup.1 ∙ ap (λ (rows : List Dataset). get_or rows c.in_ok-dataset.field-0 c.in_ok-row.row.now) c.datasets.ensures.same)
    c.in_ok-as_ref.field-0.now (sym c.in_ok-as_ref.ensures.value) origin in
    let at = snapshot_found c.args.dir.now pool are c.datasets.ensures.lawful.ordered.snapshots_differ c.in_ok-as_ref.field-0.now c.snapshot.result c.snapshot.ensures origin in
    (λ is. at.0 (its.0 is), λ there. its.1 (at.1 there))
