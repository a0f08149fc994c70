use Rattle.std.proofs.lemmas.Result.{err_from_is_err_and}
use Rattle.std.proofs.Common.{List, sym, ap, ◌∙◌, subst, get_or}
use Rattle.zst_block.specs.Blocks.{Has}
use Rattle.zst_dir.specs.declared.rows.Partial.{Partial}
use Rattle.zst_plan.specs.Receipts.{IsNewPlan, IsPlainPlan, IsRecvPlanOf}
use Rattle.zst_plan.specs.RecvPlan.{RecvPlan, recv_plan}
use Rattle.zst_plan.specs.declared.receive.RecvPlan as plans
use Rattle.zst_plan.proofs.AlikeAnswers.{ok_alike, err_alike, refuses, answers}
use Rattle.zst_pool.proofs.NamedPools.{rows_named}
use Rattle.zst_image.specs.Reads.{PartialIs}
use Rattle.zst_recv.specs.Damage.{IsBegun, StaysWith}
use Rattle.zst_recv.specs.ReceiveSteps.{begun, opened}
use Rattle.zst_recv.specs.Stages.{CanPutFor, IsBatch, StageFits}
use Rattle.zst_recv.specs.declared.batch.Batch as batches
use Rattle.zst_recv.specs.declared.stage.Stage.TheVariants as stages
use Rattle.zst_recv.proofs.FirstPartials.{begins_planned, begun_is, partial_is, resumed_is, resumed_set, resumes_fits, resumes_planned, batch_is}
use Rattle.zst_recv.proofs.first_partial.open.Goals as goal

pub returns-in_err-place-clause-exact : goal.returns-in_err-place-clause-exact
returns-in_err-place-clause-exact c = λ bound image space running runs tells.
    let rows = c.args.dir.now in
    let ask = c.args.ask.now in
    let header = c.args.header.now in
    let fault = c.in_err-place.field-0.0 in
    refuses (λ (batch : batches.Batch) (plan : RecvPlan). IsBatch bound (Has image space) batch (opened ask header plan)) c.from_residual.result (recv_plan ask header running) fault c.from_residual.ensures.1
    (err_alike (IsRecvPlanOf rows running ask) fault (recv_plan ask header running) (c.in_err-place.ensures.exact running (rows_named (Has image space) rows running runs) tells))

pub returns-in-Resumes-clause-fits : goal.returns-in-Resumes-clause-fits
returns-in-Resumes-clause-fits c =
    let rows = c.args.dir.now in
    let ask = c.args.ask.now in
    let place = c.in-Resumes.place in
    let row = c.index-partials-place.result in
    subst (StageFits rows ask.target) (sym c.opened.ensures.stage)
    (subst (CanPutFor rows ask.target) (sym c.duplicate.ensures)
    (resumes_fits rows ask.target place row c.datasets-lawful.ensures.lawful (subst (IsNewPlan rows ask.target) c.in-Resumes.is c.in_ok-place.ensures.for_target.new)
    (c.index-partials-place.is ∙ ap (λ (xs : List Partial). get_or xs place row) c.partials.ensures)))

pub returns-in-Resumes-clause-exact : goal.returns-in-Resumes-clause-exact
returns-in-Resumes-clause-exact c = λ bound image space running runs tells.
    let has = Has image space in
    let rows = c.args.dir.now in
    let ask = c.args.ask.now in
    let header = c.args.header.now in
    let place = c.in-Resumes.place in
    let row = c.index-partials-place.result in
    let plan = ok_alike (IsRecvPlanOf rows running ask) c.in_ok-place.field-0 (recv_plan ask header running) (c.in_ok-place.ensures.exact running (rows_named has rows running runs) tells) in
    let resumed = resumed_is rows running ask place plan.0 (subst (λ (p : plans.RecvPlan). IsRecvPlanOf rows running ask p plan.0) c.in-Resumes.is plan.2) in
    let stands = partial_is bound image space rows running runs place row resumed.0 resumed.2 (c.index-partials-place.is ∙ ap (λ (xs : List Partial). get_or xs place row) c.partials.ensures) in
    answers (λ (batch : batches.Batch) (p : RecvPlan). IsBatch bound has batch (opened ask header p)) c.opened.result plan.0 (recv_plan ask header running) plan.1
    (subst (λ (p : RecvPlan). IsBatch bound has c.opened.result (opened ask header p)) (sym resumed.1)
    (batch_is bound has c.opened.result header.flags c.duplicate.result resumed.0 _ c.opened.ensures.stage c.opened.ensures.rolls c.opened.ensures.taken c.opened.ensures.applied
    (subst (λ (r : Partial). PartialIs bound has r resumed.0) (sym c.duplicate.ensures) stands)))

pub returns-in-Begins-clause-exact : goal.returns-in-Begins-clause-exact
returns-in-Begins-clause-exact c = λ bound image space running runs tells.
    let has = Has image space in
    let rows = c.args.dir.now in
    let ask = c.args.ask.now in
    let header = c.args.header.now in
    let batch = c.opened-in-Begins.result in
    let plan = ok_alike (IsRecvPlanOf rows running ask) c.in_ok-place.field-0 (recv_plan ask header running) (c.in_ok-place.ensures.exact running (rows_named has rows running runs) tells) in
    let b = begun_is rows running ask c.in-Begins.name c.in-Begins.base c.in-Begins.rolls plan.0 (subst (λ (p : plans.RecvPlan). IsRecvPlanOf rows running ask p plan.0) c.in-Begins.is plan.2) in
    answers (λ (batch : batches.Batch) (p : RecvPlan). IsBatch bound has batch (opened ask header p)) batch plan.0 (recv_plan ask header running) plan.1
    (subst (λ (p : RecvPlan). IsBatch bound has batch (opened ask header p)) (sym b.0.plan_is)
    (batch_is bound has batch header.flags c.begun.result (begun ask header b.0.component b.0.base) b.0.base.rolls c.opened-in-Begins.ensures.stage (c.opened-in-Begins.ensures.rolls ∙ b.1) c.opened-in-Begins.ensures.taken c.opened-in-Begins.ensures.applied
    (c.begun.ensures.begun bound image space running b.0.component b.0.base runs b.0.alike b.0.named)))

pub returns-in_err-place-clause-planned : goal.returns-in_err-place-clause-planned
returns-in_err-place-clause-planned c = λ running named tells.
    let rows = c.args.dir.now in
    let ask = c.args.ask.now in
    let header = c.args.header.now in
    let fault = c.in_err-place.field-0.0 in
    refuses (λ (batch : batches.Batch) (plan : RecvPlan). Unit {0}) c.from_residual.result (recv_plan ask header running) fault c.from_residual.ensures.1
    (err_alike (IsRecvPlanOf rows running ask) fault (recv_plan ask header running) (c.in_err-place.ensures.exact running named tells))

pub returns-in-Resumes-clause-planned : goal.returns-in-Resumes-clause-planned
returns-in-Resumes-clause-planned c = λ running named tells.
    let plan = ok_alike (IsRecvPlanOf c.args.dir.now running c.args.ask.now) c.in_ok-place.field-0 (recv_plan c.args.ask.now c.args.header.now running) (c.in_ok-place.ensures.exact running named tells) in
    answers (λ (batch : batches.Batch) (p : RecvPlan). Unit {0}) c.opened.result plan.0 (recv_plan c.args.ask.now c.args.header.now running) plan.1 tt

pub returns-in-Begins-clause-planned : goal.returns-in-Begins-clause-planned
returns-in-Begins-clause-planned c = λ running named tells.
    let plan = ok_alike (IsRecvPlanOf c.args.dir.now running c.args.ask.now) c.in_ok-place.field-0 (recv_plan c.args.ask.now c.args.header.now running) (c.in_ok-place.ensures.exact running named tells) in
    answers (λ (batch : batches.Batch) (p : RecvPlan). Unit {0}) c.opened-in-Begins.result plan.0 (recv_plan c.args.ask.now c.args.header.now running) plan.1 tt

pub returns-in-Resumes-clause-begins : goal.returns-in-Resumes-clause-begins
returns-in-Resumes-clause-begins c = λ text begins.
    let rows = c.args.dir.now in
    let ask = c.args.ask.now in
    let header = c.args.header.now in
    let place = c.in-Resumes.place in
    let row = c.index-partials-place.result in
    let has =
    resumed_set rows ask.target place row (subst (IsNewPlan rows ask.target) c.in-Resumes.is c.in_ok-place.ensures.for_target.new) (c.index-partials-place.is ∙ ap (λ (xs : List Partial). get_or xs place row) c.partials.ensures) in
    subst (StaysWith rows ask text stages.Waits) (sym c.opened.ensures.stage)
    (subst (λ (r : Partial). IsBegun rows ask text r.objects) (sym c.duplicate.ensures)
    (record { header = header; begins = begins; planned = resumes_planned rows ask header c.in_ok-place.field-0 c.in_ok-place.ensures.exact place row.objects c.in-Resumes.is has }))

pub returns-in-Begins-clause-begins : goal.returns-in-Begins-clause-begins
returns-in-Begins-clause-begins c = λ text begins.
    let rows = c.args.dir.now in
    let ask = c.args.ask.now in
    let header = c.args.header.now in
    subst (StaysWith rows ask text stages.Waits) (sym c.opened-in-Begins.ensures.stage) (record {
      header = header;
      begins = begins;
      planned =
          begins_planned rows ask header c.in_ok-place.field-0 c.in_ok-place.ensures.exact c.in-Begins.name c.in-Begins.base c.in-Begins.rolls c.begun.result.objects c.in-Begins.is c.begun.ensures.base;
    })

pub returns-in_err-place-clause-begins : goal.returns-in_err-place-clause-begins
returns-in_err-place-clause-begins c = λ text begins.
    let p = err_from_is_err_and c.from_residual.result c.from_residual.ensures.1 in
    rw p.1 tt

pub begun-requires-clause-header : goal.begun-requires-clause-header
begun-requires-clause-header c = c.requires.header.kept (subst (IsPlainPlan c.args.header.now) c.in-Begins.is c.in_ok-place.ensures.for_target.plain)
