use Rattle.zst_run.proofs.InterleavedFeeds.{feeds_complete, feeds_progress}
use Rattle.zst_run.proofs.interleaved.replayed_feeds_are_progress.Goals as goal

pub returns-clause-progress : goal.returns-clause-progress
returns-clause-progress g c = λ here now there later.
    feeds_progress c.replays_keep_lawful.ensures.opened c.scripts_are_fit.ensures c.every_replayed_feed_is_progress.ensures.progress _ _ _ _ _ _

pub returns-clause-complete : goal.returns-clause-complete
returns-clause-complete g c = λ here now there later.
    feeds_complete c.replays_keep_lawful.ensures.opened c.scripts_are_fit.ensures c.every_replayed_feed_is_progress.ensures.complete _ _ _ _ _ _
