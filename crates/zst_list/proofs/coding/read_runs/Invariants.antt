use Rattle.zst_list.proofs.Loops.{Reading}
use Rattle.zst_list.proofs.coding.read_runs.Given as goal

abbrev pub invariant-loop-place : goal.invariant-loop-place
invariant-loop-place l = Reading l.count l.bytes l.place l.runs.items l.cursor
