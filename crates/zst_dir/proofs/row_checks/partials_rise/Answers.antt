use Rattle.std.proofs.Common.{rules, of_calls}
use Rattle.zst_model.specs.pools.Pool.{is_before}
use Rattle.zst_dir.specs.declared.rows.Partial.{Partial}
use Rattle.zst_dir.proofs.RisingLists.{names_rise, neighbours_from_clause}
use Rattle.zst_dir.proofs.row_checks.partials_rise.Goals as goal

pub returns : goal.returns
returns c =
    let rows = c.args.partials.now in
    let neighbours = neighbours_from_clause (λ (a b : Partial). is_before a.target b.target) rows c.is_sorted_by.result c.is_sorted_by.ensures.cases (λ f a r g k. search (rules, of_calls)) in
    names_rise (λ (row : Partial). row.target) rows c.is_sorted_by.result neighbours
