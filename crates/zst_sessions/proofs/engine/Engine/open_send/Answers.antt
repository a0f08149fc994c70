use Rattle.std.proofs.Common.{None}
use Rattle.std.proofs.lemmas.Result.{err_from_is_err_and}
use Rattle.zst_model.specs.sends.SendPlan.{send_plan, with_list}
use Rattle.zst_script.specs.declared.event.Event.TheVariants as events
use Rattle.zst_sessions.proofs.EngineOpenings.{send_added, send_refused, sends_at}
use Rattle.zst_sessions.proofs.engine.Engine.open_send.Goals as goal

pub returns-in_err-begun : goal.returns-in_err-begun
returns-in_err-begun g c =
    let p = err_from_is_err_and c.from_residual.result c.from_residual.ensures.1 in
    let old = c.args.self.now in
    let ask = c.args.ask.now in
    rw (p.1, p.2)
    (send_refused (events.Send c.args.side c.args.id ask) c.args.side c.args.id None (λ running. with_list (send_plan ask running)) old c.send_begun.new.self (sends_at c.args.side c.args.id ask old)
    c.requires.fits c.moves_keep_worlds.ensures c.in_err-begun.field-0.0 c.in_err-begun.ensures)

pub returns : goal.returns
returns g c =
    let old = c.args.self.now in
    let ask = c.args.ask.now in
    send_added (events.Send c.args.side c.args.id ask) c.args.side c.args.id None (λ running. with_list (send_plan ask running)) old c.send_begun.new.self (sends_at c.args.side c.args.id ask old)
    c.requires.fits c.moves_keep_worlds.ensures c.in_ok-begun.begun c.add_send.new.self c.add_send.result c.in_ok-begun.ensures c.add_send.ensures.adds c.add_send.ensures.rest
