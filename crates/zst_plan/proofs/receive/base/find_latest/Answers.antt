use Rattle.std.proofs.Common.{rules, refl}
use Rattle.zst_model.specs.declared.refusals.plan_fault.PlanFault.TheVariants as plans
use Rattle.zst_plan.specs.Places.{StandsAt}
use Rattle.zst_plan.specs.RecvPlan.{latest_of}
use Rattle.zst_plan.proofs.LookupLemmas.{answers_by}
use Rattle.zst_plan.proofs.receive.base.find_latest.Goals as goal

pub returns : goal.returns
returns c = record {
  inside = search rules;
  found = λ pool are.
      let rows = c.args.dir.now in
      let fault = plans.NotLatest 0 c.args.header.now.from in
      answers_by (StandsAt rows.snapshots pool.snapshots) c.latest_of.result (latest_of c.args.name.now pool) fault fault c.ok_or.result c.ok_or.ensures.value refl (c.latest_of.ensures.latest pool are);
}
