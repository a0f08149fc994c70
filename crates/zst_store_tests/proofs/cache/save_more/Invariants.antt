use Rattle.std.proofs.Common.{◌≡◌}
use Rattle.zst_store_tests.proofs.cache.save_more.Given as goal

abbrev pub invariant-loop-byte : goal.invariant-loop-byte
invariant-loop-byte g l = record {
  same : l.io.disk.ghost_name ≡ l.fn.io.disk.ghost_name;
}
