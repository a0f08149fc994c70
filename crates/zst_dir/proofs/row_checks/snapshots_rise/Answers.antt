use Rattle.std.proofs.Common.{rules, of_calls, not}
use Rattle.zst_dir.specs.Rows.{snapshot_is_before}
use Rattle.zst_dir.specs.declared.rows.Snapshot.{Snapshot}
use Rattle.zst_dir.proofs.RisingLists.{snapshots_rise, neighbours_from_clause}
use Rattle.zst_dir.proofs.row_checks.snapshots_rise.Goals as goal

pub returns : goal.returns
returns c =
    let rows = c.args.snapshots.now in
    let neighbours = neighbours_from_clause (λ (a b : Snapshot). not (snapshot_is_before b a)) rows c.is_sorted_by.result c.is_sorted_by.ensures.cases (λ f a r g k. search (rules, of_calls)) in
    snapshots_rise rows c.is_sorted_by.result neighbours
