use Rattle.std.proofs.Common.{ℕ, ◌&&◌, Some, sym, ap, ◌∙◌}
use Rattle.zst_model.specs.pools.Sessions.{has_claimed}
use Rattle.zst_sessions.proofs.HeldThings.{claim_of_receive, none_into}
use Rattle.zst_sessions.specs.EngineSteps.{coded_claim}
use Rattle.zst_sessions.specs.World.{is_side}
use Rattle.zst_sessions.specs.declared.open_sessions.OpenReceive.{OpenReceive}
use Rattle.zst_sessions.proofs.LeastSessions.{least-all, least-fails, least-passes, least_kept, none_passes}
use Rattle.zst_sessions.proofs.holders.session_into.Goals as goal
use Rattle.zst_sessions.proofs.holders.session_into.Goals.{then-has_claimed, else-has_claimed}

pub loop-one-preserved : goal.loop-one-preserved
loop-one-preserved c =
    let sessions = c.args.receives.now in
    let id_of = λ (one : OpenReceive). one.id in
    let passes = λ (one : OpenReceive). is_side one.side c.args.side && has_claimed c.args.target.now (coded_claim one) in
    let place = c.loop-one.one-index in
    let tested = sym c.has_claimed.ensures in
    elim c.if-has_claimed.branch [
      | then-has_claimed w ↦ w.least-is ∙ ap (λ (n : ℕ). Some n) w.lesser.ensures
          ∙ least-passes id_of passes sessions place c.one-item.result c.loop-one.least c.loop-one-test.true c.one-item.is (tested ∙ w.if-has_claimed.true) c.loop-one.invariant
      | else-has_claimed w ↦ w.least-is
          ∙ least-fails id_of passes sessions place c.one-item.result c.loop-one.least c.loop-one-test.true c.one-item.is (tested ∙ w.if-has_claimed.false) c.loop-one.invariant
    ]

pub returns-clause-into : goal.returns-clause-into
returns-clause-into c = λ sends.
    let id_of = λ (one : OpenReceive). one.id in
    let on = λ (one : OpenReceive). is_side one.side c.args.side in
    let passes = λ (one : OpenReceive). is_side one.side c.args.side && has_claimed c.args.target.now (coded_claim one) in
    least-all id_of passes c.args.receives.now c.loop-one.one-index c.loop-one.least c.loop-one-test.false c.loop-one.invariant
    ∙ least_kept on coded_claim (has_claimed c.args.target.now) c.args.receives.now
    ∙ sym (claim_of_receive c.args.side sends c.args.receives.now c.args.target.now)

pub returns-clause-none : goal.returns-clause-none
returns-clause-none c = λ is.
    let id_of = λ (one : OpenReceive). one.id in
    let passes = λ (one : OpenReceive). is_side one.side c.args.side && has_claimed c.args.target.now (coded_claim one) in
    none_into c.args.side c.args.target.now c.args.receives.now
    (none_passes id_of passes c.args.receives.now (sym (least-all id_of passes c.args.receives.now c.loop-one.one-index c.loop-one.least c.loop-one-test.false c.loop-one.invariant) ∙ is))
