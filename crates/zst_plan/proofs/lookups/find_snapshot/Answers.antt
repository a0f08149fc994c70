use Rattle.std.proofs.Common.{rules}
use Rattle.zst_model.specs.declared.refusals.subjects.Name.TheVariants as names
use Rattle.zst_model.specs.pools.Pool.{snapshot_named}
use Rattle.zst_model.specs.sends.SendPlan.{absent}
use Rattle.zst_plan.specs.Places.{StandsAt}
use Rattle.zst_plan.proofs.LookupLemmas.{found_or, snapshots_find}
use Rattle.zst_plan.proofs.lookups.find_snapshot.Goals as goal

pub returns-clause-finds : goal.returns-clause-finds
returns-clause-finds c = record {
  inside = search rules;
  found = λ pool are.
      let rows = c.args.dir.now in
      let name = c.args.name.now in
      found_or (StandsAt rows.snapshots pool.snapshots) c.snapshot.result (snapshot_named name pool) (absent (names.Snapshot name)) c.ok_or_else.result
      (λ fault made. search rules) c.ok_or_else.ensures.cases (snapshots_find rows pool are name c.snapshot.result c.snapshot.ensures);
}
