use Rattle.std.proofs.Common.{Result, ap, inl, sym, subst}
use Rattle.std.proofs.lemmas.Result.{err_from_is_err_and}
use Rattle.zst_model.specs.declared.refusals.plan_fault.PlanFault.{PlanFault}
use Rattle.zst_model.specs.sends.Headers.{Sent}
use Rattle.zst_model.specs.sends.SendPlan.{with_list}
use Rattle.zst_plan.specs.Plans.{IsPlanOf}
use Rattle.zst_send.specs.Openings.{IsPlanned, rest_of}
use Rattle.zst_run.specs.declared.send.SendRequest.TheVariants.{Rest}
use Rattle.zst_run.proofs.OpenedSends.{opened_for, opens_rest, plan_damage, plan_is, reads_nothing, refusal_is}
use Rattle.zst_run.proofs.send.open_rest.Goals as goal

pub returns-in_err-plan : goal.returns-in_err-plan
returns-in_err-plan g c =
    let rows = c.args.pool.now.kept.dir in
    let fault = c.in_err-plan.field-0.0 in
    let p = err_from_is_err_and c.from_residual.result c.from_residual.ensures.1 in
    rw (p.1, p.2) (record {
      opens = λ running told named stands. ap with_list (refusal_is (IsPlanOf rows running) fault (rest_of c.args.token.now running) (c.in_err-plan.ensures.plans.found running named));
      planned = λ running named. inl (refusal_is (IsPlanOf rows running) fault (rest_of c.args.token.now running) (c.in_err-plan.ensures.plans.found running named));
      damaged = λ told sector stated found same. absurd (cc same);
      opened = tt;
      reads = reads_nothing c.args.pool.now fault c.requires;
    })

pub returns : goal.returns
returns g c =
    let rows = c.args.pool.now.kept.dir in
    let token = c.args.token.now in
    let plan = c.in_ok-plan.plan in
    let plans = c.in_ok-plan.ensures.plans in
    let io = c.args.pool.now.io in
    let disk = g.D.Disk.state io.disk.now in
    let e = c.resume.ensures in
    record {
      opens = λ running told named stands.
          let s = plan_is (IsPlanOf rows running) plan (rest_of token running) (plans.found running named) in
          opens_rest _ s.0 token.point (rest_of token running) c.resume.result s.1 (e.resumes running s.0 told c.requires named s.2 (stands s.0 s.1));
      planned = λ running named.
          let s = plan_is (IsPlanOf rows running) plan (rest_of token running) (plans.found running named) in
          subst (λ (p : Result Sent PlanFault). IsPlanned p c.resume.result) (sym s.1) (e.planned running s.0 c.requires named s.2);
      damaged = λ told. plan_damage io.space.end disk.seen disk.size rows (rest_of token) plan c.resume.result plans (e.damaged told);
      opened = opened_for (Rest token) rows c.resume.result (e.set token.to c.in_ok-plan.ensures.to) e.knows e.fits;
      reads = e.pool;
    }
