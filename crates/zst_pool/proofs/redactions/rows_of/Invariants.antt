use Rattle.zst_pool.proofs.RedactionRows.{Gathers}
use Rattle.zst_pool.proofs.redactions.rows_of.Given as goal

abbrev pub invariant-loop-name : goal.invariant-loop-name
invariant-loop-name l = Gathers l.dir l.names l.name-index l.rows.items
