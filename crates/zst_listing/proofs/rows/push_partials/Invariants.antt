use Rattle.std.proofs.Common.{◌≡◌, ◌++◌, map, take}
use Rattle.zst_listing.specs.Rows.{partial_line}
use Rattle.zst_listing.proofs.rows.push_partials.Given as goal

abbrev pub invariant-loop-row : goal.invariant-loop-row
invariant-loop-row l = l.lines.items ≡ l.fn.lines.items ++ map partial_line (take l.row-index l.rows)
