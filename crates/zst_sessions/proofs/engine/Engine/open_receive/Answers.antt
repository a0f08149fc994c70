use Rattle.std.proofs.lemmas.Result.{err_from_is_err_and}
use Rattle.zst_sessions.proofs.EngineOpenings.{receive_added, receive_refused, receive_unbegun}
use Rattle.zst_sessions.proofs.engine.Engine.open_receive.Goals as goal

pub returns-in-Some : goal.returns-in-Some
returns-in-Some g c = receive_refused c.args.side c.args.id c.args.ask c.args.self.now c.requires.fits c.moves_keep_worlds.ensures c.in-Some.refusal c.in-Some.ensures.refusal

pub returns-in_err-recv : goal.returns-in_err-recv
returns-in_err-recv g c =
    let p = err_from_is_err_and c.from_residual.result c.from_residual.ensures.1 in
    rw (p.1, p.2)
    (receive_unbegun c.args.side c.args.id c.args.ask c.args.self.now c.requires.fits c.moves_keep_worlds.ensures c.receive_begun.new.self c.receive_refusal.result c.receive_refusal.ensures.refusal c.in_default.is
    c.in_err-recv.field-0.0 c.in_err-recv.ensures.known c.in_err-recv.ensures.looks)

pub returns : goal.returns
returns g c =
    receive_added c.args.side c.args.id c.args.ask c.args.self.now c.requires.fits c.moves_keep_worlds.ensures c.receive_begun.new.self c.receive_refusal.result c.receive_refusal.ensures.refusal c.in_default.is
    c.in_ok-recv.field-0 c.add_receive.new.self c.add_receive.result c.in_ok-recv.ensures.looks c.in_ok-recv.ensures.fresh c.in_ok-recv.ensures.number (c.receive_refusal.ensures.none c.in_default.is)
    c.add_receive.ensures.adds c.add_receive.ensures.rest
