use Rattle.std.proofs.Common.{rules, of_calls, ◌≡◌, false, not, refl}
use Rattle.std.proofs.lemmas.List.Sorted.{IsPartitionPoint-from_clause}
use Rattle.zst_model.proofs.OrderLaws.{row_before_later}
use Rattle.zst_dir.specs.Rows.{snapshot_is_before}
use Rattle.zst_dir.specs.declared.rows.Snapshot.{Snapshot}
use Rattle.zst_dir.proofs.Places.{partitioned, partition-place}
use Rattle.zst_dir.proofs.InsertedRows.{of_snapshot}
use Rattle.zst_dir.proofs.dir.place_of_snapshot.Goals as goal

pub returns : goal.returns
returns c =
    let snapshot = c.args.snapshot.now in
    let stands_behind = λ (other : Snapshot). not (snapshot_is_before snapshot other) in
    let parted = partitioned (λ a b. snapshot_is_before b a ≡ false) stands_behind (snapshot_is_before snapshot) c.args.snapshots.now (λ other. refl)
    (λ a b ordered before. row_before_later of_snapshot (λ s. s.number) snapshot a b before ordered) c.requires in
    let point = IsPartitionPoint-from_clause stands_behind c.args.snapshots.now _ c.partition_point.ensures.partitioned parted (λ a r f k. search (rules, of_calls)) in
    partition-place stands_behind (snapshot_is_before snapshot) c.args.snapshots.now _ (λ other. refl) c.partition_point.ensures.bound point
