use Rattle.std.proofs.Common.{rules, ◌≡◌, ◌∙◌, ◌==◌, false, Some, None, Err, refl, sym, ap}
use Rattle.std.specs.List.{find}
use Rattle.std.specs.Option.{ok_or}
use Rattle.zst_model.specs.declared.refusals.plan_fault.PlanFault.TheVariants as plans
use Rattle.zst_model.specs.states.AppliedItems.{◌>>=◌}
use Rattle.zst_plan.specs.Places.{StandsAt}
use Rattle.zst_plan.specs.Receipts.{IsBaseOf}
use Rattle.zst_plan.specs.RecvPlan.{base_by_guid, cloned_base, is_full}
use Rattle.zst_plan.proofs.ReceiveChecks.{by_guid, guids_find}
use Rattle.zst_plan.proofs.receive.new_dataset.base_by_guid.Goals as goal
use Rattle.zst_plan.proofs.AlikeAnswers.{none_alike, some_alike, hands_on}

pub returns-in-Some : goal.returns-in-Some
returns-in-Some c = record {
  inside = search rules;
  found = λ pool are.
      let rows = c.args.dir.now in
      let header = c.args.header.now in
      let own : is_full header ≡ false = sym c.is_full.ensures ∙ c.if-is_full.false in
      let found = some_alike (StandsAt rows.snapshots pool.snapshots) c.in-Some.place (find (λ snapshot. snapshot.guid == header.from) pool.snapshots)
      (guids_find rows pool are header.from (Some c.in-Some.place) (sym c.in-Some.is ∙ c.by_guid.ensures)) in
      hands_on (IsBaseOf rows pool) c.cloned_base.result (base_by_guid header pool) (cloned_base header pool found.0)
      (by_guid header pool own ∙ ap (λ o. ok_or o (plans.NoOrigin header.from) >>= cloned_base header pool) found.1)
      (c.cloned_base.ensures.exact pool found.0 are found.2);
}

pub returns-in-None : goal.returns-in-None
returns-in-None c = record {
  inside = search rules;
  found = λ pool are.
      let rows = c.args.dir.now in
      let header = c.args.header.now in
      let own : is_full header ≡ false = sym c.is_full.ensures ∙ c.if-is_full.false in
      let none = none_alike (StandsAt rows.snapshots pool.snapshots) (find (λ snapshot. snapshot.guid == header.from) pool.snapshots)
      (guids_find rows pool are header.from None (sym c.in-None.is ∙ c.by_guid.ensures)) in
      hands_on (IsBaseOf rows pool) (Err (plans.NoOrigin header.from)) (base_by_guid header pool) (Err (plans.NoOrigin header.from))
      (by_guid header pool own ∙ ap (λ o. ok_or o (plans.NoOrigin header.from) >>= cloned_base header pool) none)
      refl;
}
