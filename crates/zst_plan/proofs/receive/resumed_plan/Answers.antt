use Rattle.std.proofs.Common.{◌∙◌, List, get_or, ap}
use Rattle.zst_dir.specs.RowNames.{NamesPartial}
use Rattle.zst_dir.specs.declared.rows.Partial.{Partial}
use Rattle.zst_plan.specs.Receipts.{IsRecvPlanOf}
use Rattle.zst_plan.specs.RecvPlan.{Resumes, resumed_plan}
use Rattle.zst_plan.specs.declared.receive.RecvPlan.TheVariants as plans
use Rattle.zst_plan.proofs.receive.resumed_plan.Goals as goal
use Rattle.zst_plan.proofs.AlikeAnswers.{at_names, refuses, answers}

pub returns-in_err-check_resumed-clause-exact : goal.returns-in_err-check_resumed-clause-exact
returns-in_err-check_resumed-clause-exact c = λ pool ask partial are at.
    let rows = c.args.dir.now in
    let row = c.index-partials-place.result in
    let names = at_names NamesPartial rows.partials pool.partials c.args.place row partial are.partials at (c.index-partials-place.is ∙ ap (λ (xs : List Partial). get_or xs c.args.place row) c.partials.ensures) in
    refuses (IsRecvPlanOf rows pool ask) c.from_residual.result (resumed_plan c.args.header.now partial) c.in_err-check_resumed.field-0.0 c.from_residual.ensures.1
    (c.in_err-check_resumed.ensures partial names)

pub returns-clause-exact : goal.returns-clause-exact
returns-clause-exact c = λ pool ask partial are at.
    let rows = c.args.dir.now in
    let row = c.index-partials-place.result in
    let names = at_names NamesPartial rows.partials pool.partials c.args.place row partial are.partials at (c.index-partials-place.is ∙ ap (λ (xs : List Partial). get_or xs c.args.place row) c.partials.ensures) in
    answers (IsRecvPlanOf rows pool ask) (plans.Resumes c.args.place) (Resumes partial) (resumed_plan c.args.header.now partial)
    (c.in_ok-check_resumed.ensures partial names) at
