use Rattle.std.proofs.Common.{◌≡◌, ◌<◌, length, sym, ◌∙◌, arith}
use Rattle.zst_dir.specs.Rows.{with_head_at}
use Rattle.zst_dir.specs.declared.rows.Dataset.{Dataset}
use Rattle.zst_dir.proofs.Heads.{changed-one, changed-same, changed-all}
use Rattle.zst_dir.proofs.dir.set_head.Goals as goal
use Rattle.zst_dir.proofs.dir.set_head.Goals.{then-eq, else-eq}

pub loop-dataset-preserved : goal.loop-dataset-preserved
loop-dataset-preserved c =
    let change = λ (d : Dataset). record d { head = c.args.head } in
    let inside : c.loop-dataset.dataset-index < length c.args.datasets.now = omega arith in
    let long : length c.loop-dataset.datasets ≡ length c.args.datasets.now = c.loop-dataset.auto.datasets in
    elim c.if-eq.branch [
      | then-eq w ↦ w.datasets-is ∙ changed-one c.args.name.now change c.args.datasets.now c.loop-dataset.datasets c.loop-dataset.dataset-index c.dataset-item.result
          long inside c.loop-dataset.invariant (sym c.eq.ensures ∙ w.if-eq.true)
      | else-eq w ↦ w.datasets-is ∙ changed-same c.args.name.now change c.args.datasets.now c.loop-dataset.datasets c.loop-dataset.dataset-index c.dataset-item.result
          long inside c.loop-dataset.invariant (sym c.eq.ensures ∙ w.if-eq.false)
    ]

pub returns : goal.returns
returns c = c.loop-dataset.invariant ∙ changed-all (with_head_at c.args.name.now c.args.head) c.args.datasets.now c.loop-dataset.dataset-index c.loop-dataset-test.false
