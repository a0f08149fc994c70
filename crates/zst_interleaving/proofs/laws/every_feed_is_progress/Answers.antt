use Rattle.zst_interleaving.proofs.Runs.{runs_complete, runs_progress}
use Rattle.zst_interleaving.proofs.laws.every_feed_is_progress.Goals as goal

pub returns : goal.returns
returns c = record {
  progress = runs_progress c.runs_stay_on_course.ensures.runs c.pumps_are_progress.ensures.progress;
  complete = runs_complete c.runs_stay_on_course.ensures.runs c.pumps_are_progress.ensures.complete;
}
