use Rattle.std.proofs.Common.{◌∙◌, refl, subst, sym}
use Rattle.zst_pool.specs.Calls.{CanCommit}
use Rattle.zst_pool.proofs.PoolsAtRest.{commit_behind, behind_end_fits}
use Rattle.zst_pool.proofs.pool.Pool.new.Goals as goal

pub new-io-requires : goal.new-io-requires
new-io-requires g c = rw (c.new-space.ensures, c.new.ensures.items, c.uber-uber.ensures) (behind_end_fits (g.D.Disk.state c.args.disk.now) c.args.kept.body c.requires.ready)

pub returns-clause-works : goal.returns-clause-works
returns-clause-works g c =
    let space = c.new-io.ensures.space ∙ (rw (c.new-space.ensures, c.new.ensures.items, c.uber-uber.ensures) refl) in
    subst (λ (disk : g.row.D.Denot). CanCommit (g.D.Disk.state disk) c.new-io.result.space c.args.kept.body) (sym c.new-io.ensures.disk)
    (commit_behind (g.D.Disk.state c.args.disk.now) c.new-io.result.space c.args.kept.body space c.requires.ready)
