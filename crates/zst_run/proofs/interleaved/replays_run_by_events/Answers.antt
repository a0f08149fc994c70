use Rattle.zst_run.proofs.InterleavedFeeds.{replays_by_events}
use Rattle.zst_run.proofs.interleaved.replays_run_by_events.Goals as goal

pub returns : goal.returns
returns g c = λ here now there later. replays_by_events c.replays_split.ensures.split c.replays_split.ensures.ways _ _ _ _ _ _
