use Rattle.std.proofs.Common.{◌≡◌, ◌∙◌, ◌<◌, ◌+◌, ℕ, Bool, true, false, List, length, get_or, Option, IfSome, bytes_eq, sym, ap, subst, arith}
use Rattle.zst_dir.specs.RowNames.{NamesSnapshot}
use Rattle.zst_dir.specs.declared.rows.Snapshot.{Snapshot}
use Rattle.zst_model.specs.pools.Pool.{dataset_of_snapshot}
use Rattle.zst_model.specs.pools.Pool as plain
use Rattle.zst_names.specs.Names.{dataset_of}
use Rattle.zst_plan.specs.Places.{FindAlike, StandsAt}
use Rattle.zst_plan.proofs.LatestSnapshots.{latest_all, latest_fails, latest_in, latest_passes}
use Rattle.zst_plan.proofs.receive.base.latest_of.Goals as goal
use Rattle.zst_plan.proofs.receive.base.latest_of.Goals.{then-eq, else-eq}

-- what a row and what it names have in common
same_dataset : (name : List ℕ) (x : Snapshot) (y : plain.Snapshot) → NamesSnapshot x y → bytes_eq (dataset_of 64 x.name) name ≡ bytes_eq (dataset_of_snapshot y) name
same_dataset name x y is = ap (λ n. bytes_eq (dataset_of 64 n) name) (sym is.name)

-- whether the row at the place is of the dataset
tested : (c : goal.Joined-eq) (b : Bool) → c.eq.result ≡ b → bytes_eq (dataset_of 64 c.index-snapshots-place.result.name) c.args.name.now ≡ b
tested c b is =
    ap (λ (r : Snapshot). bytes_eq (dataset_of 64 r.name) c.args.name.now) c.index-snapshots-place.is ∙ ap (λ (n : List ℕ). bytes_eq n c.args.name.now) (sym c.dataset.ensures) ∙ sym c.eq.ensures ∙ is

pub loop-place-preserved : goal.loop-place-preserved
loop-place-preserved c =
    let rows = c.args.dir.now in
    let name = c.args.name.now in
    let place = c.loop-place.place in
    let row = c.index-snapshots-place.result in
    let below : place < length rows.snapshots = omega (arith, c.loop-place-test.true, ap length c.snapshots-place-end.ensures) in
    let at = c.index-snapshots-place.is ∙ ap (λ (xs : List Snapshot). get_or xs place row) c.snapshots.ensures in
    elim c.if-eq.branch [
      | then-eq w ↦ record {
        inside = subst (λ (o : Option ℕ). IfSome o (λ p. p < length rows.snapshots)) (sym w.latest-is) below;
        latest = λ pool are.
            subst (λ (o : Option ℕ). FindAlike (StandsAt rows.snapshots pool.snapshots) o (latest_in (λ snapshot. bytes_eq (dataset_of_snapshot snapshot) name) pool.snapshots (place + 1))) (sym w.latest-is)
            (latest_passes NamesSnapshot (λ snapshot. bytes_eq (dataset_of 64 snapshot.name) name) (λ snapshot. bytes_eq (dataset_of_snapshot snapshot) name) (same_dataset name)
            rows.snapshots pool.snapshots are.snapshots place row below at (tested c true w.if-eq.true));
      }
      | else-eq w ↦ record {
        inside = subst (λ (o : Option ℕ). IfSome o (λ p. p < length rows.snapshots)) (sym w.latest-is) c.loop-place.invariant.inside;
        latest = λ pool are.
            subst (λ (o : Option ℕ). FindAlike (StandsAt rows.snapshots pool.snapshots) o (latest_in (λ snapshot. bytes_eq (dataset_of_snapshot snapshot) name) pool.snapshots (place + 1))) (sym w.latest-is)
            (latest_fails NamesSnapshot (λ snapshot. bytes_eq (dataset_of 64 snapshot.name) name) (λ snapshot. bytes_eq (dataset_of_snapshot snapshot) name) (same_dataset name)
            rows.snapshots pool.snapshots are.snapshots place row below at c.loop-place.latest (tested c false w.if-eq.false) (c.loop-place.invariant.latest pool are));
      }
    ]

pub returns : goal.returns
returns c =
    let rows = c.args.dir.now in
    let name = c.args.name.now in
    record {
      inside = c.loop-place.invariant.inside;
      latest = λ pool are.
          latest_all NamesSnapshot (λ snapshot. bytes_eq (dataset_of 64 snapshot.name) name) (λ snapshot. bytes_eq (dataset_of_snapshot snapshot) name) (same_dataset name)
          rows.snapshots pool.snapshots are.snapshots c.loop-place.latest c.loop-place.place (omega (arith, c.loop-place-test.false, ap length c.snapshots-place-end.ensures)) (c.loop-place.invariant.latest pool are);
    }
