use Rattle.zst_run.proofs.AlikeSends.{sent_alike}
use Rattle.zst_run.proofs.send.equal_views_are_written_alike.Goals as goal

pub returns : goal.returns
returns g c = λ here now there later. sent_alike c.equal_views_are_sent_alike.ensures.rest _ _ _ _
