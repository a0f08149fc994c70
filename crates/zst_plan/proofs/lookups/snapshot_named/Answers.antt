use Rattle.std.proofs.Common.{rules, Some}
use Rattle.zst_model.specs.pools.Pool.{snapshot_named}
use Rattle.zst_plan.specs.Places.{StandsAt}
use Rattle.zst_plan.specs.Sources.{FoundSnapshot}
use Rattle.zst_plan.proofs.LookupLemmas.{rows_found, snapshot_row, snapshots_find}
use Rattle.zst_plan.proofs.lookups.snapshot_named.Goals as goal

pub returns : goal.returns
returns c = λ pool are.
    let rows = c.args.dir.now in
    let name = c.args.name.now in
    rows_found (StandsAt rows.snapshots pool.snapshots) FoundSnapshot c.snapshot.result c.map.result (snapshot_named name pool)
    (λ place row other at is. snapshot_row rows pool are place row (Some other) (search rules) is) c.map.ensures.cases
    (snapshots_find rows pool are name c.snapshot.result c.snapshot.ensures)
