use Rattle.std.proofs.Common.{rules, of_calls}
use Rattle.zst_model.specs.pools.Pool.{is_before}
use Rattle.zst_dir.specs.declared.rows.Dataset.{Dataset}
use Rattle.zst_dir.proofs.RisingLists.{names_rise, neighbours_from_clause}
use Rattle.zst_dir.proofs.row_checks.datasets_rise.Goals as goal

pub returns : goal.returns
returns c =
    let rows = c.args.datasets.now in
    let neighbours = neighbours_from_clause (λ (a b : Dataset). is_before a.name b.name) rows c.is_sorted_by.result c.is_sorted_by.ensures.cases (λ f a r g k. search (rules, of_calls)) in
    names_rise (λ (row : Dataset). row.name) rows c.is_sorted_by.result neighbours
