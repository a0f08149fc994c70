use Rattle.zst_replication.proofs.FreshReceives.{stops_progress}
use Rattle.zst_replication.proofs.laws.stops_are_progress.Goals as goal

pub returns : goal.returns
returns c = stops_progress c.grounds_stand.ensures
