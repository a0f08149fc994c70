use Rattle.zst_sessions.proofs.ReceiveEnds.{receive_ended}
use Rattle.zst_sessions.proofs.endings.end_receive.Goals as goal

pub returns-clause-ends : goal.returns-clause-ends
returns-clause-ends g c =
    let cut = c.cut-cut in
    receive_ended c.args.pool.now cut.new.pool cut.ensures.io c.args.recv c.ends_leave_rows.ensures c.requires.ready cut.ensures.leaves cut.ensures.body c.datasets-lawful.ensures.lawful cut.ensures.rests
