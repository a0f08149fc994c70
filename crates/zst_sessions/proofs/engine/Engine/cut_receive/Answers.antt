-- A cut ends its receive, and does nothing else.
use Rattle.std.proofs.Common.{ℕ, Err, refl, sym, ◌∙◌, subst}
use Rattle.zst_model.specs.declared.refusals.refusal.Refusal.{Refusal}
use Rattle.zst_recv.specs.Stages.{fed_of}
use Rattle.zst_script.specs.declared.event.Event.TheVariants as events
use Rattle.zst_script.specs.declared.event.Side.TheVariants.{Here, There}
use Rattle.zst_sessions.proofs.CutReceives.{cut_at, cut_here, cut_missed, cut_there, fits_at}
use Rattle.zst_sessions.specs.EngineSteps.{StepsEngine, kept_pool}
use Rattle.zst_sessions.specs.declared.engine.Engine.{Engine}
use Rattle.zst_sessions.proofs.engine.Engine.cut_receive.Goals.{in-Here, in-There}
use Rattle.zst_sessions.proofs.engine.Engine.cut_receive.Goals as goal

pub returns-in_default : goal.returns-in_default
returns-in_default g c =
    subst (λ (refusal : Refusal). StepsEngine (events.Cut c.args.id) c.args.self.now c.args.self.now (Err refusal)) (sym c.no_session.ensures)
    (cut_missed c.args.self.now c.args.id c.requires.fits (sym c.receive_place.ensures ∙ c.in_default.is))

pub end_receive-requires-clause-recv : goal.end_receive-requires-clause-recv
end_receive-requires-clause-recv g c =
    let old = c.args.self.now in
    fits_at Here (kept_pool old.here) (kept_pool old.there) old.receives.items c.args.id c.in-Some.place c.remove-side.result (sym c.receive_place.ensures ∙ c.in-Some.is) (sym c.remove-side.ensures.value) c.in-Here.is
    c.requires.fits.sessions.receives_fit

pub end_receive-requires-in-There-clause-recv : goal.end_receive-requires-in-There-clause-recv
end_receive-requires-in-There-clause-recv g c =
    let old = c.args.self.now in
    fits_at There (kept_pool old.here) (kept_pool old.there) old.receives.items c.args.id c.in-Some.place c.remove-side.result (sym c.receive_place.ensures ∙ c.in-Some.is) (sym c.remove-side.ensures.value) c.in-There.is
    c.requires.fits.sessions.receives_fit

pub returns : goal.returns
returns g c =
    let old = c.args.self.now in
    let one = c.remove-side.result in
    let beside = c.sessions_stand_beside.ensures in
    subst (λ (n : ℕ). StepsEngine (events.Cut c.args.id) old c.match-side.self (Err (cut_at n))) (sym c.fed-at.ensures)
    (elim c.match-side.branch [
      | in-Here w ↦ (
          let ended = w.end_receive in
          subst (λ (e : Engine g.row.D.Denot g.row.E.Denot g.D.Disk g.E.Disk). StepsEngine (events.Cut c.args.id) old e (Err (cut_at (fed_of one.recv)))) (sym w.self-is)
          (cut_here old c.args.id c.requires.fits beside.sends beside.receives beside.fit c.moves_keep_worlds.ensures c.numbers_rise.ensures (record old { here = ended.new.pool; receives = c.remove-side.new.self }) c.in-Some.place one
          (sym c.receive_place.ensures ∙ c.in-Some.is) (sym c.remove-side.ensures.value) c.remove-side.ensures.items refl w.in-Here.is ended.ensures.ends ended.ensures.io)
          )
      | in-There w ↦ (
          let ended = w.end_receive-in-There in
          subst (λ (e : Engine g.row.D.Denot g.row.E.Denot g.D.Disk g.E.Disk). StepsEngine (events.Cut c.args.id) old e (Err (cut_at (fed_of one.recv)))) (sym w.self-is)
          (cut_there old c.args.id c.requires.fits beside.sends beside.receives beside.fit c.moves_keep_worlds.ensures c.numbers_rise.ensures (record old { there = ended.new.pool; receives = c.remove-side.new.self }) c.in-Some.place one
          (sym c.receive_place.ensures ∙ c.in-Some.is) (sym c.remove-side.ensures.value) c.remove-side.ensures.items refl w.in-There.is ended.ensures.ends ended.ensures.io)
          )
    ])
