-- A reopen ends the sessions of its pool, and opens it again.
use Rattle.std.proofs.Common.{◌≡◌, ℕ, Err, not, filter, refl, sym, ap, ◌∙◌, subst}
use Rattle.std.specs.Prelude.{Result}
use Rattle.std.proofs.lemmas.Result.{err_from_is_err_and}
use Rattle.zst_model.specs.declared.refusals.refusal.Refusal.{Refusal}
use Rattle.zst_script.specs.declared.event.Event.TheVariants as events
use Rattle.zst_script.specs.declared.event.Side.{Side}
use Rattle.zst_script.specs.declared.event.Side.TheVariants.{Here, There}
use Rattle.zst_sessions.proofs.ReopenedPools.{opened, reopens_here, reopens_there}
use Rattle.zst_sessions.specs.EngineSteps.{StepsEngine}
use Rattle.zst_sessions.specs.World.{is_side}
use Rattle.zst_sessions.specs.declared.engine.Engine.{Engine}
use Rattle.zst_sessions.specs.declared.event_reply.EventReply.{EventReply}
use Rattle.zst_sessions.proofs.engine.Engine.reopen_pool.Given.{Over}
use Rattle.zst_sessions.proofs.engine.Engine.reopen_pool.Goals.{in-Here, in-There, After-branch-opened}
use Rattle.zst_sessions.proofs.engine.Engine.reopen_pool.Goals as goal

-- whatever it answers
whole : (g : Over) (c : After-branch-opened g) → StepsEngine (events.Reopen c.args.side) c.args.self.now c.match-side.self (opened c.match-side.opened)
whole g c = elim c.match-side.branch [
  | in-Here w ↦ (
      let call = w.open_again-opened in
      let old = c.args.self.now in
      subst (λ (s : Side). StepsEngine (events.Reopen s) old c.match-side.self (opened c.match-side.opened)) (sym w.in-Here.is)
      (subst (λ (e : Engine g.row.D.Denot g.row.E.Denot g.D.Disk g.E.Disk). StepsEngine (events.Reopen Here) old e (opened c.match-side.opened)) (sym w.self-is)
      (subst (λ (r : Result ℕ Refusal). StepsEngine (events.Reopen Here) old (record old { here = call.new.pool; sends = c.end_sends.new.sends; receives = c.end_receives.new.receives }) (opened r)) (sym w.opened-is)
      (reopens_here old (record old { here = call.new.pool; sends = c.end_sends.new.sends; receives = c.end_receives.new.receives }) call.result c.moves_keep_worlds.ensures c.requires.fits refl refl call.ensures.open_still (
        subst (λ (s : Side). c.end_sends.new.sends.items ≡ filter (λ one. not (is_side one.side s)) old.sends.items) w.in-Here.is c.end_sends.ensures,
        subst (λ (s : Side). c.end_receives.new.receives.items ≡ filter (λ one. not (is_side one.side s)) old.receives.items) w.in-Here.is c.end_receives.ensures,
      ) refl call.ensures.opens call.ensures.later call.ensures.cause)))
      )
  | in-There w ↦ (
      let call = w.open_again-opened-in-There in
      let old = c.args.self.now in
      subst (λ (s : Side). StepsEngine (events.Reopen s) old c.match-side.self (opened c.match-side.opened)) (sym w.in-There.is)
      (subst (λ (e : Engine g.row.D.Denot g.row.E.Denot g.D.Disk g.E.Disk). StepsEngine (events.Reopen There) old e (opened c.match-side.opened)) (sym w.self-is)
      (subst (λ (r : Result ℕ Refusal). StepsEngine (events.Reopen There) old (record old { there = call.new.pool; sends = c.end_sends.new.sends; receives = c.end_receives.new.receives }) (opened r)) (sym w.opened-is)
      (reopens_there old (record old { there = call.new.pool; sends = c.end_sends.new.sends; receives = c.end_receives.new.receives }) call.result c.moves_keep_worlds.ensures c.requires.fits refl refl call.ensures.open_still (
        subst (λ (s : Side). c.end_sends.new.sends.items ≡ filter (λ one. not (is_side one.side s)) old.sends.items) w.in-There.is c.end_sends.ensures,
        subst (λ (s : Side). c.end_receives.new.receives.items ≡ filter (λ one. not (is_side one.side s)) old.receives.items) w.in-There.is c.end_receives.ensures,
      ) refl call.ensures.opens call.ensures.later call.ensures.cause)))
      )
]

pub returns-in_err-opened : goal.returns-in_err-opened
returns-in_err-opened g c =
    let p = err_from_is_err_and c.from_residual.result c.from_residual.ensures.1 in
    let answer : opened c.match-side.opened ≡ c.from_residual.result = ap opened c.in_err-opened.was ∙ sym (p.1 ∙ ap (λ (r : Refusal). Err r) p.2) in
    subst (λ (r : Result EventReply Refusal). StepsEngine (events.Reopen c.args.side) c.args.self.now c.match-side.self r) answer (whole g (goal.at.returns-in_err-opened g c).After-branch-opened)

pub returns : goal.returns
returns g c =
    subst (λ (r : Result ℕ Refusal). StepsEngine (events.Reopen c.args.side) c.args.self.now c.match-side.self (opened r)) c.in_ok-opened.was (whole g (goal.at.returns g c).After-branch-opened)
