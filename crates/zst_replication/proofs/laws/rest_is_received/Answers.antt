use Rattle.zst_replication.proofs.ResumedReceives.{fit_received, rest_received}
use Rattle.zst_replication.proofs.laws.rest_is_received.Goals as goal

pub returns : goal.returns
returns c = record { made = rest_received c.grounds_stand.ensures; sent = fit_received c.grounds_stand.ensures }
