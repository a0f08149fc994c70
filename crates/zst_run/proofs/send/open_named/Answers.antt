use Rattle.zst_run.specs.declared.send.SendRequest.TheVariants.{Named}
use Rattle.zst_run.proofs.OpenedSends.{opened_for, opens_named}
use Rattle.zst_run.proofs.send.open_named.Goals as goal

pub returns : goal.returns
returns g c =
    let e = c.open.ensures in
    record {
      opens = λ running told named stands. opens_named _ c.args.ask.now running c.open.result (e.opens running told c.requires named stands);
      planned = λ running named. e.planned running c.requires named;
      damaged = e.damaged;
      opened = opened_for (Named c.args.ask.now) c.args.pool.now.kept.dir c.open.result e.set e.knows e.fits;
      reads = e.pool;
    }
