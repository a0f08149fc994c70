use Rattle.std.proofs.Common.{◌≡◌, take}
use Rattle.zst_dir.specs.Removal.{takes_snapshot}
use Rattle.zst_pool.proofs.LeastNames.{least_where}
use Rattle.zst_pool.proofs.rollbacks.least_going.Given as goal

abbrev pub invariant-loop-snapshot : goal.invariant-loop-snapshot
invariant-loop-snapshot l = l.least ≡ least_where (λ snapshot. snapshot.name) (takes_snapshot l.going) (take l.snapshot-index l.snapshot-items)
