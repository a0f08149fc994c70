use Rattle.std.proofs.Common.{◌≡◌, ℕ, ◌<◌, List, get_or, set, length, sym, ap, ◌∙◌, arith}
use Rattle.zst_dir.specs.Rows.{with_objects_at}
use Rattle.zst_dir.specs.declared.rows.Dataset.{Dataset}
use Rattle.zst_dir.proofs.Heads.{changed-one, changed-same, changed-all}
use Rattle.zst_dir.proofs.dir.set_objects.Goals as goal
use Rattle.zst_dir.proofs.dir.set_objects.Goals.{then-eq, else-eq}

pub loop-row-preserved : goal.loop-row-preserved
loop-row-preserved c =
    let change = λ (d : Dataset). record d { head = c.args.head; redact = c.args.redact.now } in
    let inside : c.loop-row.row-index < length c.args.datasets.now = omega arith in
    let long : length c.loop-row.datasets ≡ length c.args.datasets.now = c.loop-row.auto.datasets in
    elim c.if-eq.branch [
      | then-eq w ↦ w.datasets-is
          ∙ ap (λ (r : List ℕ). set c.loop-row.datasets c.loop-row.row-index (record (get_or c.loop-row.datasets c.loop-row.row-index c.row-item.result) { head = c.args.head; redact = r })) w.duplicate-row.ensures
          ∙ changed-one c.args.name.now change c.args.datasets.now c.loop-row.datasets c.loop-row.row-index c.row-item.result
          long inside c.loop-row.invariant (sym c.eq.ensures ∙ w.if-eq.true)
      | else-eq w ↦ w.datasets-is ∙ changed-same c.args.name.now change c.args.datasets.now c.loop-row.datasets c.loop-row.row-index c.row-item.result
          long inside c.loop-row.invariant (sym c.eq.ensures ∙ w.if-eq.false)
    ]

pub returns : goal.returns
returns c = c.loop-row.invariant ∙ changed-all (with_objects_at c.args.name.now c.args.head c.args.redact.now) c.args.datasets.now c.loop-row.row-index c.loop-row-test.false
