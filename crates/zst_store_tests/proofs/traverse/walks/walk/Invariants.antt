use Rattle.std.proofs.Common.{◌≡◌}
use Rattle.zst_store_tests.proofs.traverse.walks.walk.Given as goal

abbrev pub invariant-calls : goal.invariant-calls
invariant-calls g l = record {
  same : l.io.disk.ghost_name ≡ l.fn.io.disk.ghost_name;
}
