use Rattle.std.proofs.Common.{◌≡◌, ◌-◌, drop, length}
use Rattle.zst_pool.specs.Redactions.{row_guids}
use Rattle.zst_pool.proofs.redactions.guids_of.Given as goal

-- the guids of the last rows are in
abbrev pub invariant-loop-done : goal.invariant-loop-done
invariant-loop-done l = l.guids.items ≡ row_guids (drop (length l.rows - l.done) l.rows)
