use Rattle.std.proofs.Common.{rules, of_calls}
use Rattle.std.proofs.lemmas.List.Sorted.{IsPartitionPoint-from_clause}
use Rattle.zst_dir.specs.declared.rows.Dataset.{Dataset}
use Rattle.zst_listing.proofs.RangeLaws.{place_is, stands_upto, upto_parted}
use Rattle.zst_listing.proofs.ranges.place_behind.Goals as goal

pub returns-clause-first : goal.returns-clause-first
returns-clause-first c =
    let name = c.args.name.now in
    let rows = c.args.rows.now in
    let upto = λ (row : Dataset). stands_upto name row.name in
    place_is (λ (row : Dataset). row.name) name rows _ c.partition_point.ensures.bound
    (IsPartitionPoint-from_clause upto rows _ c.partition_point.ensures.partitioned (upto_parted (λ (row : Dataset). row.name) name rows c.requires) (λ a r f k. search (rules, of_calls)))
