use Rattle.zst_dir.specs.Rows.{IsPartialRow}
use Rattle.zst_dir.specs.Spelling.{partial_bytes}
use Rattle.zst_dir.proofs.Loops.{Reading}
use Rattle.zst_dir.proofs.lists.read_partials.Given as goal

abbrev pub invariant-loop : goal.invariant-loop
invariant-loop l = Reading partial_bytes IsPartialRow l.fn.cursor l.fn.partials.items l.count l.counter l.partials.items l.cursor
