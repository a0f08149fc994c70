use Rattle.std.proofs.Common.{◌≡◌}
use Rattle.zst_store_tests.proofs.traverse.sets.scattered.Given as goal

abbrev pub invariant-loop-place : goal.invariant-loop-place
invariant-loop-place g l = record {
  same : l.io.disk.ghost_name ≡ l.fn.io.disk.ghost_name;
}
