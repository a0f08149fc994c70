use Rattle.zst_interleaving.proofs.FedReplays.{pumps_complete, pumps_progress}
use Rattle.zst_interleaving.proofs.laws.every_replayed_feed_is_progress.Goals as goal

pub returns : goal.returns
returns c = record {
  progress = pumps_progress c.moves_keep_worlds.ensures c.replays_keep_lawful.ensures.replays c.every_lawful_feed_is_progress.ensures.progress;
  complete = pumps_complete c.moves_keep_worlds.ensures c.replays_keep_lawful.ensures.replays c.every_lawful_feed_is_progress.ensures.complete;
}
