use Rattle.std.proofs.Common.{sym, ◌∙◌}
use Rattle.zst_pool.proofs.SnapshotRemovals.{never_goes}
use Rattle.zst_pool.proofs.lineage.is_going.Goals as goal

pub returns-else-may_go : goal.returns-else-may_go
returns-else-may_go c = c.if-may_go.false ∙ never_goes c.args.going.now c.args.name.now c.args.dir.now.snapshots (sym c.may_go.ensures ∙ c.if-may_go.false)
