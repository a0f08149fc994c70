use Rattle.std.proofs.Common.{ℕ, ◌&&◌, Some, sym, ap, ◌∙◌}
use Rattle.zst_model.specs.pools.Sessions.{has_named}
use Rattle.zst_sessions.specs.EngineSteps.{coded_hold}
use Rattle.zst_sessions.specs.World.{is_side}
use Rattle.zst_sessions.specs.declared.open_sessions.OpenSend.{OpenSend}
use Rattle.zst_sessions.proofs.LeastSessions.{least-all, least-fails, least-passes, least_kept}
use Rattle.zst_sessions.proofs.holders.least_send_with.Goals as goal
use Rattle.zst_sessions.proofs.holders.least_send_with.Goals.{then-has_named, else-has_named}

pub loop-one-preserved : goal.loop-one-preserved
loop-one-preserved c =
    let sessions = c.args.sends.now in
    let id_of = λ (one : OpenSend). one.id in
    let passes = λ (one : OpenSend). is_side one.side c.args.side && has_named c.args.name.now (coded_hold one) in
    let place = c.loop-one.one-index in
    let tested = sym c.has_named.ensures in
    elim c.if-has_named.branch [
      | then-has_named w ↦ w.least-is ∙ ap (λ (n : ℕ). Some n) w.lesser.ensures
          ∙ least-passes id_of passes sessions place c.one-item.result c.loop-one.least c.loop-one-test.true c.one-item.is (tested ∙ w.if-has_named.true) c.loop-one.invariant
      | else-has_named w ↦ w.least-is
          ∙ least-fails id_of passes sessions place c.one-item.result c.loop-one.least c.loop-one-test.true c.one-item.is (tested ∙ w.if-has_named.false) c.loop-one.invariant
    ]

pub returns : goal.returns
returns c =
    let id_of = λ (one : OpenSend). one.id in
    let on = λ (one : OpenSend). is_side one.side c.args.side in
    let passes = λ (one : OpenSend). is_side one.side c.args.side && has_named c.args.name.now (coded_hold one) in
    least-all id_of passes c.args.sends.now c.loop-one.one-index c.loop-one.least c.loop-one-test.false c.loop-one.invariant
    ∙ least_kept on coded_hold (has_named c.args.name.now) c.args.sends.now
