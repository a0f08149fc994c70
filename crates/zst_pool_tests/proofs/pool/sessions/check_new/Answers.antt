use Rattle.std.proofs.Common.{◌∙◌, sym, ap, is_some}
use Rattle.zst_pool_tests.proofs.pool.sessions.check_new.Goals as goal
use Rattle.zst_dir.proofs.Lookups.{no_snapshot}

pub returns : goal.returns
returns c = record {
  absent = no_snapshot c.args.dir.now c.args.name.now (ap is_some (sym c.snapshot.ensures) ∙ sym c.is_some.ensures ∙ c.if-is_some.false);
}
