use Rattle.std.proofs.Common.{rules, of_calls, ap, ◌∙◌, List, ℕ, bytes_eq}
use Rattle.std.proofs.lemmas.List.Sorted.{IsPartitionPoint-from_clause}
use Rattle.zst_check.specs.RowTests.{stands_below}
use Rattle.zst_check.proofs.LastSnapshots.{none_found, last_found}
use Rattle.zst_check.proofs.nearest.last_below.Goals as goal

pub returns-in_err-place : goal.returns-in_err-place
returns-in_err-place c = λ pool are named.
    rw c.from_residual.ensures
    (none_found c.args.dir.now pool are named c.args.dataset.now c.args.bound c.snapshots-rows.result.now c.snapshots-rows.ensures c.partition_point-past.result c.partition_point-past.ensures.bound
    (λ sorted. IsPartitionPoint-from_clause (stands_below c.args.dataset.now c.args.bound) c.snapshots-rows.result.now _ c.partition_point-past.ensures.partitioned sorted
    (λ a r f k. search (rules, of_calls)))
    c.in_err-place.ensures)

pub returns : goal.returns
returns c = λ pool are named.
    last_found c.args.dir.now pool are named c.args.dataset.now c.args.bound c.snapshots-rows.result.now c.snapshots-rows.ensures c.partition_point-past.result c.partition_point-past.ensures.bound
    (λ sorted. IsPartitionPoint-from_clause (stands_below c.args.dataset.now c.args.bound) c.snapshots-rows.result.now _ c.partition_point-past.ensures.partitioned sorted
    (λ a r f k. search (rules, of_calls)))
    c.in_ok-place.place c.in_ok-get.field-0.now c.eq.result c.then_some.result c.in_ok-place.ensures.0 c.in_ok-place.ensures.1 c.in_ok-get.ensures.lookup.1
    (c.eq.ensures ∙ ap (λ (n : List ℕ). bytes_eq n c.args.dataset.now) c.dataset.ensures) c.then_some.ensures
