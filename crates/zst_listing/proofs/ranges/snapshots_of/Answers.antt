use Rattle.std.proofs.Common.{rules, of_calls, ◌∙◌, take}
use Rattle.std.proofs.lemmas.List.Sorted.{IsPartitionPoint-from_clause}
use Rattle.zst_names.specs.Names.{dataset_of}
use Rattle.zst_dir.specs.declared.rows.Snapshot.{Snapshot}
use Rattle.zst_listing.proofs.RangeLaws.{AreThose, before_parted, between_are_those, stands_before, stands_upto, upto_parted, whole_rest}
use Rattle.zst_listing.proofs.ranges.snapshots_of.Goals as goal
use Rattle.zst_listing.proofs.ranges.snapshots_of.Goals.{After-partition_point-end}

those : (c : After-partition_point-end) → AreThose (λ (row : Snapshot). dataset_of 64 row.name) c.args.name.now c.args.rows.now c.partition_point-start.result c.partition_point-end.result
those c =
    let key = λ (row : Snapshot). dataset_of 64 row.name in
    let name = c.args.name.now in
    let rows = c.args.rows.now in
    between_are_those key name rows c.partition_point-start.result c.partition_point-end.result c.partition_point-start.ensures.bound (record {
      inside = c.partition_point-end.ensures.bound;
      front = IsPartitionPoint-from_clause (λ (row : Snapshot). stands_before name (key row)) rows _ c.partition_point-start.ensures.partitioned (before_parted key name rows c.requires) (λ a r f k. search (rules, of_calls));
      back = IsPartitionPoint-from_clause (λ (row : Snapshot). stands_upto name (key row)) rows _ c.partition_point-end.ensures.partitioned (upto_parted key name rows c.requires) (λ a r f k. search (rules, of_calls));
    })

pub slice_bounds-result-start : goal.slice_bounds-result-start
slice_bounds-result-start c = (those (goal.at.slice_bounds-result-start c).After-partition_point-end).ordered

pub slice_bounds-result-count : goal.slice_bounds-result-count
slice_bounds-result-count c = (those (goal.at.slice_bounds-result-count c).After-partition_point-end).ordered

pub returns : goal.returns
returns c = whole_rest c.partition_point-start.result (take c.partition_point-end.result c.args.rows.now) ∙ (those (goal.at.returns c).After-partition_point-end).those
