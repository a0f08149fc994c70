use Rattle.std.proofs.Common.{rules, of_calls, ◌≡◌, true, not}
use Rattle.std.specs.Ordering.{nat_cmp, is_le}
use Rattle.std.specs.Cmp.Lexicographic.{slice_cmp}
use Rattle.std.proofs.lemmas.List.Sorted.{IsPartitionPoint-from_clause}
use Rattle.zst_model.specs.pools.Pool.{is_before}
use Rattle.zst_model.proofs.OrderLaws.{before_trans}
use Rattle.zst_dir.proofs.Places.{le-before, partitioned, partition-place}
use Rattle.zst_dir.specs.declared.rows.Bookmark.{Bookmark}
use Rattle.zst_dir.proofs.dir.place_of_bookmark.Goals as goal

pub returns : goal.returns
returns c =
    let name = c.args.name.now in
    let stands_behind = λ (other : Bookmark). is_le (slice_cmp nat_cmp other.name name) in
    let comes_before = λ (other : Bookmark). is_before name other.name in
    let same : (other : Bookmark) → stands_behind other ≡ not (comes_before other) = λ other. le-before other.name name in
    let parted = partitioned (λ a b. is_before a.name b.name ≡ true) stands_behind comes_before c.args.bookmarks.now same
    (λ a b ordered before. before_trans name a.name b.name before ordered) c.requires in
    let point = IsPartitionPoint-from_clause stands_behind c.args.bookmarks.now _ c.partition_point.ensures.partitioned parted (λ a r f k. search (rules, of_calls)) in
    partition-place stands_behind comes_before c.args.bookmarks.now _ same c.partition_point.ensures.bound point
