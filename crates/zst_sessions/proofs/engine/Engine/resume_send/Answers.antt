use Rattle.std.proofs.Common.{Some, sym, ◌∙◌}
use Rattle.std.proofs.lemmas.Result.{err_from_is_err_and}
use Rattle.zst_model.specs.sends.SendPlan.{with_list}
use Rattle.zst_script.specs.declared.event.Event.TheVariants as events
use Rattle.zst_send.specs.Openings.{rest_of}
use Rattle.zst_sessions.proofs.EngineOpenings.{resume_failed, resumes_at, send_added, send_refused, token_refused}
use Rattle.zst_sessions.proofs.engine.Engine.resume_send.Goals as goal

pub returns-then-has_failed : goal.returns-then-has_failed
returns-then-has_failed g c =
    resume_failed c.args.side c.args.id c.args.dataset.now c.args.self.now (sym c.has_failed.ensures ∙ c.if-has_failed.true) c.requires.fits c.moves_keep_worlds.ensures

pub returns-in_err-token : goal.returns-in_err-token
returns-in_err-token g c =
    let p = err_from_is_err_and c.from_residual.result c.from_residual.ensures.1 in
    rw (p.1, p.2)
    (token_refused c.args.side c.args.id c.args.dataset.now c.args.self.now (sym c.has_failed.ensures ∙ c.if-has_failed.false) c.in_err-token.field-0.0 c.in_err-token.ensures c.requires.fits c.moves_keep_worlds.ensures)

pub returns-in_err-begun : goal.returns-in_err-begun
returns-in_err-begun g c =
    let p = err_from_is_err_and c.from_residual-in_err-begun.result c.from_residual-in_err-begun.ensures.1 in
    let old = c.args.self.now in
    let token = c.in_ok-token.token in
    rw (p.1, p.2)
    (send_refused (events.Resume c.args.side c.args.id c.args.dataset.now) c.args.side c.args.id (Some token.point) (λ running. with_list (rest_of token running)) old c.rest_begun.new.self
    (resumes_at c.args.side c.args.id c.args.dataset.now old (sym c.has_failed.ensures ∙ c.if-has_failed.false) token c.in_ok-token.ensures)
    c.requires.fits c.moves_keep_worlds.ensures c.in_err-begun.field-0.0 c.in_err-begun.ensures)

pub returns : goal.returns
returns g c =
    let old = c.args.self.now in
    let token = c.in_ok-token.token in
    send_added (events.Resume c.args.side c.args.id c.args.dataset.now) c.args.side c.args.id (Some token.point) (λ running. with_list (rest_of token running)) old c.rest_begun.new.self
    (resumes_at c.args.side c.args.id c.args.dataset.now old (sym c.has_failed.ensures ∙ c.if-has_failed.false) token c.in_ok-token.ensures)
    c.requires.fits c.moves_keep_worlds.ensures c.in_ok-begun.begun c.add_send.new.self c.add_send.result c.in_ok-begun.ensures c.add_send.ensures.adds c.add_send.ensures.rest
