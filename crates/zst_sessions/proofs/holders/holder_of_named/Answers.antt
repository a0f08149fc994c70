use Rattle.std.proofs.Common.{Bool, cond, None, sym, ap, ◌∙◌}
use Rattle.zst_model.specs.pools.Sessions.{session_with}
use Rattle.zst_sessions.proofs.HeldThings.{named_busy}
use Rattle.zst_sessions.specs.EngineSteps.{coded_held}
use Rattle.zst_sessions.proofs.holders.holder_of_named.Goals as goal

pub returns-then-not-may_be_had : goal.returns-then-not-may_be_had
returns-then-not-may_be_had c = λ running are.
    let held = coded_held c.args.side c.args.sends.now c.args.receives.now in
    ap (λ (b : Bool). cond b (session_with c.args.name.now held) None) (sym c.if-not-may_be_had.true ∙ c.may_be_had.ensures)
    ∙ named_busy c.args.dir.now running are held c.args.name.now

pub returns : goal.returns
returns c = λ running are.
    let held = coded_held c.args.side c.args.sends.now c.args.receives.now in
    c.session_with.ensures
    ∙ ap (λ (b : Bool). cond b (session_with c.args.name.now held) None) (sym c.if-not-may_be_had.false ∙ c.may_be_had.ensures)
    ∙ named_busy c.args.dir.now running are held c.args.name.now
