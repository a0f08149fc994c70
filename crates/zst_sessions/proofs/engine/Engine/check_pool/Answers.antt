use Rattle.std.proofs.Common.{true, Result, refl, sym, subst}
use Rattle.zst_model.specs.declared.refusals.refusal.Refusal.{Refusal}
use Rattle.zst_script.specs.declared.event.Event.TheVariants as events
use Rattle.zst_script.specs.declared.event.Side.{Side}
use Rattle.zst_script.specs.declared.event.Side.TheVariants.{Here, There}
use Rattle.zst_sessions.proofs.CheckedPools.{check_looks, check_steps}
use Rattle.zst_sessions.proofs.LookedPools.{looked_on}
use Rattle.zst_sessions.specs.EngineSteps.{StepsEngine}
use Rattle.zst_sessions.specs.declared.event_reply.EventReply.{EventReply}
use Rattle.zst_sessions.proofs.engine.Engine.check_pool.Goals as goal

pub returns-in-Here : goal.returns-in-Here
returns-in-Here g c =
    let old = c.args.self.now in
    let pool = c.check.new.pool in
    let new = record old { here = pool } in
    let told = c.check.result in
    let did = c.check.ensures in
    subst (λ (side : Side). StepsEngine {g = g.D.Disk} {h = g.E.Disk} (events.Check side) old new c.checked.result) (sym c.in-Here.is)
    (subst (λ (result : Result EventReply Refusal). StepsEngine {g = g.D.Disk} {h = g.E.Disk} (events.Check Here) old new result) (sym c.checked.ensures)
    (check_steps {g = g.D.Disk} {h = g.E.Disk} Here old new told (looked_on Here old new told (refl, check_looks old.here pool told did.only_answers did.settles did.open_still did.never_full)) c.moves_keep_worlds.ensures
    c.requires.fits (did.told true) (record { sound = did.sound; named = did.named; damaged = did.damaged })))

pub returns-in-There : goal.returns-in-There
returns-in-There g c =
    let old = c.args.self.now in
    let pool = c.check-in-There.new.pool in
    let new = record old { there = pool } in
    let told = c.check-in-There.result in
    let did = c.check-in-There.ensures in
    subst (λ (side : Side). StepsEngine {g = g.D.Disk} {h = g.E.Disk} (events.Check side) old new c.checked-in-There.result) (sym c.in-There.is)
    (subst (λ (result : Result EventReply Refusal). StepsEngine {g = g.D.Disk} {h = g.E.Disk} (events.Check There) old new result) (sym c.checked-in-There.ensures)
    (check_steps {g = g.D.Disk} {h = g.E.Disk} There old new told (looked_on There old new told (refl, check_looks old.there pool told did.only_answers did.settles did.open_still did.never_full)) c.moves_keep_worlds.ensures
    c.requires.fits (did.told true) (record { sound = did.sound; named = did.named; damaged = did.damaged })))
