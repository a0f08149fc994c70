use Rattle.zst_replication.proofs.ResumedReceives.{resumed_progress}
use Rattle.zst_replication.proofs.laws.resumed_stops_are_progress.Goals as goal

pub returns : goal.returns
returns c = resumed_progress c.grounds_stand.ensures
