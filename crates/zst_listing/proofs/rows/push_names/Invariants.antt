use Rattle.std.proofs.Common.{◌≡◌, ◌++◌, map, take}
use Rattle.std.specs.List.{flat_map}
use Rattle.zst_listing.specs.Rows.{lines_of}
use Rattle.zst_listing.proofs.rows.push_names.Given as goal

abbrev pub invariant-loop-row : goal.invariant-loop-row
invariant-loop-row l = l.lines.items ≡ l.fn.lines.items ++ flat_map (lines_of l.dir) (map (λ row. row.name) (take l.row-index l.rows))
