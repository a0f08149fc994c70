use Rattle.zst_run.proofs.AlikeSends.{worlds_alike}
use Rattle.zst_run.proofs.send.two_worlds_are_sent_alike.Goals as goal

pub returns : goal.returns
returns g c = λ here now there later. worlds_alike c.alike_pools_are_sent_alike.ensures c.equal_views_are_sent_alike.ensures.rest _ _ _ _
