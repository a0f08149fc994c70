use Rattle.std.proofs.Common.{sym, subst}
use Rattle.zst_script.specs.declared.event.Event.TheVariants as events
use Rattle.zst_script.specs.declared.event.Side.{Side}
use Rattle.zst_script.specs.declared.event.Side.TheVariants.{Here, There}
use Rattle.zst_sessions.proofs.ToldTokens.{token_steps}
use Rattle.zst_sessions.specs.EngineSteps.{StepsEngine}
use Rattle.zst_sessions.proofs.engine.Engine.tell_token.Goals as goal

pub returns-in-Here : goal.returns-in-Here
returns-in-Here g c =
    let old = c.args.self.now in
    let dataset = c.args.dataset.now in
    let told = c.token_of.ensures in
    subst (λ (side : Side). StepsEngine {g = g.D.Disk} {h = g.E.Disk} (events.Token side dataset) old old c.token_reply.result) (sym c.in-Here.is)
    (token_steps {g = g.D.Disk} {h = g.E.Disk} old Here dataset c.token_of.result c.token_reply.result c.token_reply.ensures c.requires.fits told.failed told.told told.open_still told.no_fault told.never_full)

pub returns-in-There : goal.returns-in-There
returns-in-There g c =
    let old = c.args.self.now in
    let dataset = c.args.dataset.now in
    let told = c.token_of-in-There.ensures in
    subst (λ (side : Side). StepsEngine {g = g.D.Disk} {h = g.E.Disk} (events.Token side dataset) old old c.token_reply-in-There.result) (sym c.in-There.is)
    (token_steps {g = g.D.Disk} {h = g.E.Disk} old There dataset c.token_of-in-There.result c.token_reply-in-There.result c.token_reply-in-There.ensures c.requires.fits told.failed told.told told.open_still told.no_fault told.never_full)
