use Rattle.std.proofs.Common.{refl}
use Rattle.zst_sessions.proofs.engine.Engine.rest_begun.Goals as goal

pub returns-in-Here : goal.returns-in-Here
returns-in-Here g c =
    let e = c.begin_rest.ensures in
    rw c.in-Here.is (record { begins = e.begins; fits = e.fits; looks = (refl, e.pool) })

pub returns-in-There : goal.returns-in-There
returns-in-There g c =
    let e = c.begin_rest-in-There.ensures in
    rw c.in-There.is (record { begins = e.begins; fits = e.fits; looks = (refl, e.pool) })
