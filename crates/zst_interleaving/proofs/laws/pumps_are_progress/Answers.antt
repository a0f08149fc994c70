use Rattle.zst_interleaving.proofs.Pumps.{pumps_complete, pumps_progress, pumps_stay}
use Rattle.zst_interleaving.proofs.laws.pumps_are_progress.Goals as goal

pub returns : goal.returns
returns c = record {
  progress = pumps_progress c.feeds_are_progress.ensures.progress;
  stay = pumps_stay c.feeds_are_progress.ensures.stay;
  complete = pumps_complete c.feeds_complete.ensures.sent;
}
