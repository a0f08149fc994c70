use Rattle.std.proofs.Common.{List, ℕ, Some, sym, ap, ◌∙◌}
use Rattle.zst_model.specs.pools.Step.{lesser_name}
use Rattle.zst_dir.specs.Removal.{takes_snapshot}
use Rattle.zst_dir.specs.declared.rows.Snapshot.{Snapshot}
use Rattle.zst_pool.proofs.LeastNames.{least-fails, least-passes}
use Rattle.zst_pool.proofs.rollbacks.least_going.Goals as goal
use Rattle.zst_pool.proofs.rollbacks.least_going.Goals.{then-takes_snapshot, else-takes_snapshot}

pub loop-snapshot-preserved : goal.loop-snapshot-preserved
loop-snapshot-preserved c =
    let rows = c.snapshots-snapshot-items.result.now in
    let name_of = λ (snapshot : Snapshot). snapshot.name in
    let passes = takes_snapshot c.args.going.now in
    let place = c.loop-snapshot.snapshot-index in
    let tested = sym c.takes_snapshot.ensures in
    elim c.if-takes_snapshot.branch [
      | then-takes_snapshot w ↦ w.least-is ∙ ap (λ (n : List ℕ). Some n) w.lesser.ensures ∙ ap (λ (n : List ℕ). Some (lesser_name n c.loop-snapshot.least)) w.duplicate.ensures
          ∙ least-passes name_of passes rows place c.snapshot-item.result c.loop-snapshot.least c.loop-snapshot-test.true c.snapshot-item.is (tested ∙ w.if-takes_snapshot.true) c.loop-snapshot.invariant
      | else-takes_snapshot w ↦ w.least-is
          ∙ least-fails name_of passes rows place c.snapshot-item.result c.loop-snapshot.least c.loop-snapshot-test.true c.snapshot-item.is (tested ∙ w.if-takes_snapshot.false) c.loop-snapshot.invariant
    ]
