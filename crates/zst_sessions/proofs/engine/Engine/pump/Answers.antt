use Rattle.std.proofs.Common.{◌≡◌, Result, Ok, Err, ℕ, sym, ap, ◌∙◌, subst}
use Rattle.std.proofs.lemmas.Result.{err_from_is_err_and}
use Rattle.zst_model.specs.declared.refusals.refusal.Refusal.{Refusal}
use Rattle.zst_pool.proofs.PartialRows.{kept_stays}
use Rattle.zst_script.specs.declared.event.Event.TheVariants as events
use Rattle.zst_sessions.proofs.PumpSteps.{pumps_failed_receive, pumps_failed_send, pumps_fed, pumps_no_piece, pumps_no_receive, pumps_no_send}
use Rattle.zst_sessions.specs.EngineSteps.{StepsEngine}
use Rattle.zst_sessions.specs.Takes.{TakesAt}
use Rattle.zst_sessions.specs.declared.event_reply.EventReply.{EventReply}
use Rattle.zst_sessions.proofs.engine.Engine.pump.Goals.{then-has_failed-via-then-has_failed, then-has_failed-via-else-has_failed+then-has_failed-2}
use Rattle.zst_sessions.proofs.engine.Engine.pump.Goals as goal

pub returns-in_default : goal.returns-in_default
returns-in_default g c =
    let old = c.args.self.now in
    subst (λ (r : Refusal). StepsEngine (events.Pump c.args.send c.args.receive c.args.count) old old (Err r)) (sym c.no_session.ensures)
    (pumps_no_send old c.args.send c.args.receive c.args.count c.requires.fits (sym c.send_place.ensures ∙ c.in_default.is))

pub returns-in_default-receive_place : goal.returns-in_default-receive_place
returns-in_default-receive_place g c =
    let old = c.args.self.now in
    subst (λ (r : Refusal). StepsEngine (events.Pump c.args.send c.args.receive c.args.count) old old (Err r)) (sym c.no_session-in_default-receive_place.ensures)
    (pumps_no_receive old c.args.send c.args.receive c.args.count c.requires.fits c.in-Some.from (sym c.send_place.ensures ∙ c.in-Some.is) (sym c.receive_place.ensures ∙ c.in_default-receive_place.is))

pub returns-then-has_failed : goal.returns-then-has_failed
returns-then-has_failed g c =
    let old = c.args.self.now in
    elim c.then-has_failed.branch [
      | then-has_failed-via-then-has_failed w ↦
          pumps_failed_send old c.args.send c.args.receive c.args.count c.requires.fits c.in-Some.from c.in-Some-receive_place.into c.index.result.now
          (sym c.send_place.ensures ∙ c.in-Some.is) (sym c.receive_place.ensures ∙ c.in-Some-receive_place.is) (sym c.index.ensures) (sym c.has_failed.ensures ∙ w.if-has_failed.true)
      | then-has_failed-via-else-has_failed+then-has_failed-2 w ↦
          pumps_failed_receive old c.args.send c.args.receive c.args.count c.requires.fits c.in-Some.from c.in-Some-receive_place.into w.index-else-has_failed.result.now
          (sym c.send_place.ensures ∙ c.in-Some.is) (sym c.receive_place.ensures ∙ c.in-Some-receive_place.is) (sym w.index-else-has_failed.ensures)
          (sym w.has_failed-else-has_failed.ensures ∙ w.if-has_failed-2.true)
    ]

pub returns-in_err-taken : goal.returns-in_err-taken
returns-in_err-taken g c =
    let old = c.args.self.now in
    let mid = c.take_at.new.self in
    let refusal = c.in_err-taken.field-0.0 in
    let p = err_from_is_err_and c.from_residual.result c.from_residual.ensures.1 in
    let said : c.from_residual.result ≡ Err refusal = p.1 ∙ ap (λ (r : Refusal). Err r) p.2 in
    let gave : TakesAt c.in-Some.from c.args.count old mid (Err refusal) = subst (λ (r : Result ℕ Refusal). TakesAt c.in-Some.from c.args.count old mid r) c.in_err-taken.was c.take_at.ensures in
    subst (λ (r : Result EventReply Refusal). StepsEngine (events.Pump c.args.send c.args.receive c.args.count) old mid r) (sym said)
    (pumps_no_piece old c.args.send c.args.receive c.args.count c.requires.fits c.in-Some.from c.in-Some-receive_place.into c.index.result.now c.index-else-has_failed.result.now
    (sym c.send_place.ensures ∙ c.in-Some.is) (sym c.receive_place.ensures ∙ c.in-Some-receive_place.is) (sym c.index.ensures) (sym c.index-else-has_failed.ensures) (sym c.has_failed.ensures ∙ c.if-has_failed.false) mid refusal gave)

pub returns : goal.returns
returns g c =
    let old = c.args.self.now in
    let mid = c.take_at.new.self in
    let taken = c.in_ok-taken.taken in
    let gave : TakesAt c.in-Some.from c.args.count old mid (Ok taken) = subst (λ (r : Result ℕ Refusal). TakesAt c.in-Some.from c.args.count old mid r) c.in_ok-taken.was c.take_at.ensures in
    pumps_fed old c.args.send c.args.receive c.args.count c.requires.fits c.in-Some.from c.in-Some-receive_place.into c.index.result.now c.index-else-has_failed.result.now
    (sym c.send_place.ensures ∙ c.in-Some.is) (sym c.receive_place.ensures ∙ c.in-Some-receive_place.is) (sym c.index.ensures) (sym c.index-else-has_failed.ensures) (sym c.has_failed.ensures ∙ c.if-has_failed.false) mid
    c.sessions_stand_beside.ensures.sends c.sessions_stand_beside.ensures.receives c.sessions_stand_beside.ensures.fit c.moves_keep_worlds.ensures c.numbers_rise.ensures kept_stays
    (sym c.has_failed-else-has_failed.ensures ∙ c.if-has_failed-2.false) c.feed_and_settle.new.self taken c.feed_and_settle.result gave c.feed_and_settle.ensures
