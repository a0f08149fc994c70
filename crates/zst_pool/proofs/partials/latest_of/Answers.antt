use Rattle.std.proofs.Common.{ap, sym, ◌∙◌, subst, bytes_eq, Some, Option, IfSome}
use Rattle.zst_names.specs.Names.{dataset_of}
use Rattle.zst_dir.specs.Rows.{IsSnapshotRow}
use Rattle.zst_dir.specs.declared.rows.Snapshot.{Snapshot}
use Rattle.zst_pool.specs.Partials.{last_where}
use Rattle.zst_pool.proofs.LastElements.{last-passes, last-fails, last-all, last-holds}
use Rattle.zst_pool.proofs.partials.latest_of.Goals as goal
use Rattle.zst_pool.proofs.partials.latest_of.Goals.{then-eq, else-eq}

pub loop-snapshot-preserved : goal.loop-snapshot-preserved
loop-snapshot-preserved c =
    let test = λ (snapshot : Snapshot). bytes_eq (dataset_of 64 snapshot.name) c.args.name.now in
    let rows = c.snapshots-snapshot-items.result.now in
    let tested = sym c.eq.ensures in
    elim c.if-eq.branch [
      | then-eq w ↦ w.latest-is ∙ ap (λ (s : Snapshot). Some s) w.duplicate.ensures ∙ last-passes test rows c.loop-snapshot.snapshot-index c.snapshot-item.result c.loop-snapshot-test.true c.snapshot-item.is
          (ap (λ n. bytes_eq n c.args.name.now) (sym c.dataset.ensures) ∙ tested ∙ w.if-eq.true)
      | else-eq w ↦ w.latest-is ∙ last-fails test rows c.loop-snapshot.snapshot-index c.snapshot-item.result c.loop-snapshot.latest c.loop-snapshot-test.true c.snapshot-item.is
          (ap (λ n. bytes_eq n c.args.name.now) (sym c.dataset.ensures) ∙ tested ∙ w.if-eq.false) c.loop-snapshot.invariant
    ]

pub returns-clause-last : goal.returns-clause-last
returns-clause-last c =
    let test = λ (snapshot : Snapshot). bytes_eq (dataset_of 64 snapshot.name) c.args.name.now in
    last-all test c.snapshots-snapshot-items.result.now c.loop-snapshot.snapshot-index c.loop-snapshot.latest c.loop-snapshot-test.false c.loop-snapshot.invariant
    ∙ ap (last_where test) c.snapshots-snapshot-items.ensures

pub returns-clause-row : goal.returns-clause-row
returns-clause-row c =
    let test = λ (snapshot : Snapshot). bytes_eq (dataset_of 64 snapshot.name) c.args.name.now in
    subst (λ (o : Option Snapshot). IfSome o IsSnapshotRow) (sym (returns-clause-last c)) (last-holds IsSnapshotRow test c.args.dir.now.snapshots c.datasets-lawful.ensures.lawful.snapshots)
