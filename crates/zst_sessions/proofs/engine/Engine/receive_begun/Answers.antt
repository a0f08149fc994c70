use Rattle.std.proofs.Common.{refl}
use Rattle.zst_sessions.proofs.engine.Engine.receive_begun.Goals as goal

pub returns-in-Here : goal.returns-in-Here
returns-in-Here g c =
    let e = c.begin_receive.ensures in
    rw c.in-Here.is (record { fresh = e.fresh; number = e.number; known = e.known; looks = (refl, e.pool) })

pub returns-in-There : goal.returns-in-There
returns-in-There g c =
    let e = c.begin_receive-in-There.ensures in
    rw c.in-There.is (record { fresh = e.fresh; number = e.number; known = e.known; looks = (refl, e.pool) })
