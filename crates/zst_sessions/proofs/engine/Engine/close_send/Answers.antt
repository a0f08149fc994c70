-- A close takes its send out, and does nothing else.
use Rattle.std.proofs.Common.{Err, refl, sym, ◌∙◌, subst}
use Rattle.zst_model.specs.declared.refusals.refusal.Refusal.{Refusal}
use Rattle.zst_script.specs.declared.event.Event.TheVariants as events
use Rattle.zst_sessions.proofs.ClosedSends.{close_found, close_missed}
use Rattle.zst_sessions.specs.EngineSteps.{StepsEngine}
use Rattle.zst_sessions.proofs.engine.Engine.close_send.Goals as goal

pub returns-in_default : goal.returns-in_default
returns-in_default g c =
    subst (λ (refusal : Refusal). StepsEngine (events.Close c.args.id) c.args.self.now c.args.self.now (Err refusal)) (sym c.no_session.ensures)
    (close_missed c.args.self.now c.args.id c.requires.fits (sym c.send_place.ensures ∙ c.in_default.is))

pub returns : goal.returns
returns g c =
    close_found c.args.self.now c.args.id (record c.args.self.now { sends = c.remove.new.self }) c.in-Some.place c.remove.result refl c.remove.ensures.items c.requires.fits
    (sym c.send_place.ensures ∙ c.in-Some.is)
