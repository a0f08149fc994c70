use Rattle.zst_interleaving.proofs.Runs.{opened_on, runs_stay}
use Rattle.zst_interleaving.proofs.laws.runs_stay_on_course.Goals as goal

pub returns : goal.returns
returns c = record { opened = opened_on; runs = runs_stay c.moves_keep_worlds.ensures c.events_leave_courses.ensures.courses c.pumps_are_progress.ensures.stay }
