-- A drop takes bytes of its send, and feeds nobody.
use Rattle.std.proofs.Common.{◌≡◌, ℕ, Err, sym, ap, ◌∙◌, subst}
use Rattle.std.specs.Prelude.{Result}
use Rattle.std.proofs.lemmas.Result.{err_from_is_err_and}
use Rattle.zst_model.specs.declared.refusals.refusal.Refusal.{Refusal}
use Rattle.zst_script.specs.declared.event.Event.TheVariants as events
use Rattle.zst_sessions.proofs.DroppedPieces.{drop_missed, drop_taken, dropped}
use Rattle.zst_sessions.specs.EngineSteps.{StepsEngine}
use Rattle.zst_sessions.specs.declared.event_reply.EventReply.{EventReply}
use Rattle.zst_sessions.proofs.engine.Engine.drop_piece.Goals as goal

pub returns-in_default : goal.returns-in_default
returns-in_default g c =
    subst (λ (refusal : Refusal). StepsEngine (events.Drop c.args.id c.args.count) c.args.self.now c.args.self.now (Err refusal)) (sym c.no_session.ensures)
    (drop_missed c.args.self.now c.args.id c.args.count c.requires.fits (sym c.send_place.ensures ∙ c.in_default.is))

pub returns-in_err-taken : goal.returns-in_err-taken
returns-in_err-taken g c =
    let p = err_from_is_err_and c.from_residual.result c.from_residual.ensures.1 in
    let told : dropped c.take_at.result ≡ c.from_residual.result = ap dropped c.in_err-taken.was ∙ sym (p.1 ∙ ap (λ (r : Refusal). Err r) p.2) in
    subst (λ (r : Result EventReply Refusal). StepsEngine (events.Drop c.args.id c.args.count) c.args.self.now c.take_at.new.self r) told
    (drop_taken c.args.self.now c.args.id c.args.count c.take_at.new.self c.in-Some.place c.take_at.result (sym c.send_place.ensures ∙ c.in-Some.is) c.take_at.ensures)

pub returns : goal.returns
returns g c =
    subst (λ (r : Result ℕ Refusal). StepsEngine (events.Drop c.args.id c.args.count) c.args.self.now c.take_at.new.self (dropped r)) c.in_ok-taken.was
    (drop_taken c.args.self.now c.args.id c.args.count c.take_at.new.self c.in-Some.place c.take_at.result (sym c.send_place.ensures ∙ c.in-Some.is) c.take_at.ensures)
