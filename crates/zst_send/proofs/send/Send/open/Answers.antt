use Rattle.std.specs.Str.{bytes_eq}
use Rattle.std.proofs.Common.{refl, sym, ◌∙◌}
use Rattle.std.proofs.lemmas.Bool.{true≢false}
use Rattle.std.proofs.lemmas.Result.{err_from_is_err_and}
use Rattle.zst_block.specs.Blocks.{Has}
use Rattle.zst_block.specs.IoStates.{blocks_of}
use Rattle.zst_block.proofs.IoCallLemmas.{Looks-none}
use Rattle.zst_model.specs.sends.SendPlan.{send_plan}
use Rattle.zst_model.proofs.Results.{err_is}
use Rattle.zst_plan.specs.Plans.{IsPlanOf}
use Rattle.zst_plan.proofs.AlikeAnswers.{ok_alike, err_alike}
use Rattle.zst_pool.proofs.NamedPools.{rows_named}
use Rattle.zst_pool.specs.declared.fault.PoolFault.TheVariants.{Plan}
use Rattle.zst_send.specs.Openings.{IsDamagedOpening, IsDamagedPlan, IsRedactedAt}
use Rattle.zst_send.proofs.PlanRows.{open_yet, passes_planned, plan_refuses, plan_tells, refuses, starts_opened, tight_opened}
use Rattle.zst_send.proofs.SourceLists.{tells_more}
use Rattle.zst_send.proofs.StandingRows.{redacted_by_row}
use Rattle.zst_send.proofs.send.Send.open.Goals as goal

-- ---- a pool that has failed

pub returns-then-pool-clause-damaged : goal.returns-then-pool-clause-damaged
returns-then-pool-clause-damaged g c = λ honest sector stated found same. absurd (cc same)

pub returns-then-pool-clause-pool : goal.returns-then-pool-clause-pool
returns-then-pool-clause-pool g c = record {
  failed_pool = λ is. refl;
  open_still = λ still is. true≢false (sym c.if-pool.true ∙ still);
  looks = Looks-none _;
  kept = refl;
}

-- ---- what the plan refuses

pub returns-in_err-plan-clause-opens : goal.returns-in_err-plan-clause-opens
returns-in_err-plan-clause-opens g c = λ running honest live named stands.
    let rows = c.args.pool.now.kept.dir in
    let ask = c.args.ask.now in
    let fault = c.in_err-plan.field-0.0 in
    refuses (blocks_of c.args.pool.now.io) ask running c.from_residual.result fault (err_is c.from_residual.result (Plan fault) c.from_residual.ensures.1)
    (err_alike (IsPlanOf rows running) fault (send_plan ask running) (c.in_err-plan.ensures.plans.found running named))

pub returns-in_err-plan-clause-planned : goal.returns-in_err-plan-clause-planned
returns-in_err-plan-clause-planned g c = λ running live named.
    let rows = c.args.pool.now.kept.dir in
    let ask = c.args.ask.now in
    let fault = c.in_err-plan.field-0.0 in
    plan_refuses (send_plan ask running) c.from_residual.result fault (err_is c.from_residual.result (Plan fault) c.from_residual.ensures.1)
    (err_alike (IsPlanOf rows running) fault (send_plan ask running) (c.in_err-plan.ensures.plans.found running named))

pub returns-in_err-plan-clause-damaged : goal.returns-in_err-plan-clause-damaged
returns-in_err-plan-clause-damaged g c = λ honest.
    let rows = c.args.pool.now.kept.dir in
    let disk = g.D.Disk.state c.args.pool.now.io.disk.now in
    plan_tells (IsDamagedOpening c.args.pool.now.io.space.end disk.seen disk.size rows (send_plan c.args.ask.now)) c.from_residual.result c.in_err-plan.field-0.0
    (err_is c.from_residual.result (Plan c.in_err-plan.field-0.0) c.from_residual.ensures.1)

pub returns-in_err-plan-clause-pool : goal.returns-in_err-plan-clause-pool
returns-in_err-plan-clause-pool g c =
    let p = err_from_is_err_and c.from_residual.result c.from_residual.ensures.1 in
    rw (p.1, p.2) (record {
      failed_pool = λ failed. absurd (true≢false (sym failed ∙ c.if-pool.false));
      open_still = λ still is. absurd (cc is);
      looks = Looks-none _;
      kept = refl;
    })

-- ---- what it opens

pub returns-clause-opens : goal.returns-clause-opens
returns-clause-opens g c = λ running honest live named stands.
    let rows = c.args.pool.now.kept.dir in
    let ask = c.args.ask.now in
    let s = ok_alike (IsPlanOf rows running) c.in_ok-plan.plan (send_plan ask running) (c.in_ok-plan.ensures.plans.found running named) in
    starts_opened (blocks_of c.of_plan.new.io) ask running s.0 c.of_plan.result s.1 (c.of_plan.ensures.starts running s.0 honest named s.2 (stands s.0 s.1))

pub returns-clause-tight : goal.returns-clause-tight
returns-clause-tight g c = λ image space running number live runs.
    let has = Has image space in
    let rows = c.args.pool.now.kept.dir in
    let ask = c.args.ask.now in
    let s = ok_alike (IsPlanOf rows running) c.in_ok-plan.plan (send_plan ask running) (c.in_ok-plan.ensures.plans.found running (rows_named has rows running runs)) in
    tight_opened has (send_plan ask running) s.0 c.of_plan.result s.1 (c.of_plan.ensures.tight image space running s.0 number runs s.2)

pub returns-clause-planned : goal.returns-clause-planned
returns-clause-planned g c = λ running live named.
    let rows = c.args.pool.now.kept.dir in
    let ask = c.args.ask.now in
    let s = ok_alike (IsPlanOf rows running) c.in_ok-plan.plan (send_plan ask running) (c.in_ok-plan.ensures.plans.found running named) in
    let from = c.in_ok-plan.plan.from_snap in
    passes_planned (send_plan ask running) s.0 (IsRedactedAt rows from) c.of_plan.result s.1 (redacted_by_row rows running from s.0.source named s.2.source.snapshot) c.of_plan.ensures.unlisted

pub returns-clause-damaged : goal.returns-clause-damaged
returns-clause-damaged g c = λ honest.
    let rows = c.args.pool.now.kept.dir in
    let disk = g.D.Disk.state c.args.pool.now.io.disk.now in
    let end = c.args.pool.now.io.space.end in
    let plan = c.in_ok-plan.plan in
    tells_more (IsDamagedPlan end disk.seen disk.size rows plan) (IsDamagedOpening end disk.seen disk.size rows (send_plan c.args.ask.now))
    (λ sector stated found damaged. (plan, c.in_ok-plan.ensures.plans, damaged)) c.of_plan.result (c.of_plan.ensures.damaged honest)

pub returns-clause-set : goal.returns-clause-set
returns-clause-set g c = c.of_plan.ensures.set (λ snapshot. bytes_eq snapshot.name c.args.ask.now.snap) c.in_ok-plan.ensures.named

pub returns-clause-pool : goal.returns-clause-pool
returns-clause-pool g c = record {
  failed_pool = λ failed. absurd (true≢false (sym failed ∙ c.if-pool.false));
  open_still = λ still is. open_yet (IsRedactedAt c.args.pool.now.kept.dir c.in_ok-plan.plan.from_snap) c.of_plan.result c.of_plan.ensures.unlisted is;
  looks = c.of_plan.ensures.looks;
  kept = refl;
}
