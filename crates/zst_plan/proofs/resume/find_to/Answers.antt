use Rattle.std.proofs.Common.{rules, ◌==◌}
use Rattle.std.specs.List.{find}
use Rattle.zst_plan.specs.Places.{StandsAt}
use Rattle.zst_plan.specs.ResumePlan.{no_guid}
use Rattle.zst_plan.proofs.LookupLemmas.{answers_by}
use Rattle.zst_plan.proofs.ReceiveChecks.{guids_find}
use Rattle.zst_plan.proofs.resume.find_to.Goals as goal

pub returns-clause-finds : goal.returns-clause-finds
returns-clause-finds c = record {
  inside = search rules;
  found = λ pool are.
      let rows = c.args.dir.now in
      let to = c.args.token.now.to in
      answers_by (StandsAt rows.snapshots pool.snapshots) c.by_guid.result (find (λ snapshot. snapshot.guid == to) pool.snapshots) c.no_guid.result (no_guid to) c.ok_or.result c.ok_or.ensures.value c.no_guid.ensures
      (guids_find rows pool are to c.by_guid.result c.by_guid.ensures);
}
