use Rattle.std.proofs.Common.{rules, of_calls, ◌≡◌, true, not}
use Rattle.std.specs.Ordering.{nat_cmp, is_le}
use Rattle.std.specs.Cmp.Lexicographic.{slice_cmp}
use Rattle.std.proofs.lemmas.List.Sorted.{IsPartitionPoint-from_clause}
use Rattle.zst_model.specs.pools.Pool.{is_before}
use Rattle.zst_model.proofs.OrderLaws.{before_trans}
use Rattle.zst_dir.proofs.Places.{le-before, partitioned, partition-place}
use Rattle.zst_dir.specs.declared.rows.Partial.{Partial}
use Rattle.zst_dir.proofs.dir.place_of_partial.Goals as goal

pub returns : goal.returns
returns c =
    let target = c.args.target.now in
    let stands_behind = λ (other : Partial). is_le (slice_cmp nat_cmp other.target target) in
    let comes_before = λ (other : Partial). is_before target other.target in
    let same : (other : Partial) → stands_behind other ≡ not (comes_before other) = λ other. le-before other.target target in
    let parted = partitioned (λ a b. is_before a.target b.target ≡ true) stands_behind comes_before c.args.partials.now same
    (λ a b ordered before. before_trans target a.target b.target before ordered) c.requires in
    let point = IsPartitionPoint-from_clause stands_behind c.args.partials.now _ c.partition_point.ensures.partitioned parted (λ a r f k. search (rules, of_calls)) in
    partition-place stands_behind comes_before c.args.partials.now _ same c.partition_point.ensures.bound point
