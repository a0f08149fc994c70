use Rattle.std.proofs.Common.{ℕ, ◌&&◌, Some, sym, ap, ◌∙◌}
use Rattle.zst_sessions.specs.EngineSteps.{coded_hold}
use Rattle.zst_sessions.specs.SessionHolders.{has_going}
use Rattle.zst_sessions.specs.World.{is_side}
use Rattle.zst_sessions.specs.declared.open_sessions.OpenSend.{OpenSend}
use Rattle.zst_sessions.proofs.LeastSessions.{least-all, least-fails, least-passes, least_kept}
use Rattle.zst_sessions.proofs.holders.least_send_of.Goals as goal
use Rattle.zst_sessions.proofs.holders.least_send_of.Goals.{then-has_going, else-has_going}

pub loop-one-preserved : goal.loop-one-preserved
loop-one-preserved c =
    let sessions = c.args.sends.now in
    let id_of = λ (one : OpenSend). one.id in
    let passes = λ (one : OpenSend). is_side one.side c.args.side && has_going c.args.going.now c.args.dir.now (coded_hold one) in
    let place = c.loop-one.one-index in
    let tested = sym c.has_going.ensures in
    elim c.if-has_going.branch [
      | then-has_going w ↦ w.least-is ∙ ap (λ (n : ℕ). Some n) w.lesser.ensures
          ∙ least-passes id_of passes sessions place c.one-item.result c.loop-one.least c.loop-one-test.true c.one-item.is (tested ∙ w.if-has_going.true) c.loop-one.invariant
      | else-has_going w ↦ w.least-is
          ∙ least-fails id_of passes sessions place c.one-item.result c.loop-one.least c.loop-one-test.true c.one-item.is (tested ∙ w.if-has_going.false) c.loop-one.invariant
    ]

pub returns : goal.returns
returns c =
    let id_of = λ (one : OpenSend). one.id in
    let on = λ (one : OpenSend). is_side one.side c.args.side in
    let passes = λ (one : OpenSend). is_side one.side c.args.side && has_going c.args.going.now c.args.dir.now (coded_hold one) in
    least-all id_of passes c.args.sends.now c.loop-one.one-index c.loop-one.least c.loop-one-test.false c.loop-one.invariant
    ∙ least_kept on coded_hold (has_going c.args.going.now c.args.dir.now) c.args.sends.now
