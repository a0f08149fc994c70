use Rattle.std.proofs.Common.{◌∙◌, sym}
use Rattle.std.proofs.lemmas.Result.{err_from_is_err_and}
use Rattle.zst_run.proofs.GeneratorRuns.{step_done, step_fails}
use Rattle.zst_run.proofs.generate.make_next.Goals as goal

pub returns-in_err-step : goal.returns-in_err-step
returns-in_err-step g c =
    let e = c.in_err-step.ensures in
    let p = err_from_is_err_and c.from_residual-in_err-step.result c.from_residual-in_err-step.ensures.1 in
    rw (p.1, p.2)
    (step_fails c.args.now c.args.steps c.args.number c.in-Some.next (sym c.in_ok-made.ensures.command ∙ c.in-Some.is) c.requires.number c.args.pool.now c.step.new.self c.requires.works c.in_err-step.field-0.0 e.did e.settles)

pub returns : goal.returns
returns g c =
    let e = c.in_ok-step.ensures in
    step_done c.args.now c.args.steps c.args.number c.in-Some.next (sym c.in_ok-made.ensures.command ∙ c.in-Some.is) c.requires.number c.args.pool.now c.step.new.self c.requires.works c.in_ok-step.field-0 e.did e.settles e.partials
