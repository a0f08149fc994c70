use Rattle.std.proofs.Common.{◌≡◌}
use Rattle.zst_send.specs.Sends.{SendFits}
use Rattle.zst_pool_tests.proofs.send.sends.take_rest.Given as goal

abbrev pub invariant-takes : goal.invariant-takes
invariant-takes g l = record {
  send : SendFits l.send;
  same : l.pool.io.disk.ghost_name ≡ l.fn.pool.io.disk.ghost_name;
}
