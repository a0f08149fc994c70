use Rattle.zst_interleaving.proofs.Beside.{leave_courses}
use Rattle.zst_interleaving.proofs.OtherEvents.{receives_stay}
use Rattle.zst_interleaving.proofs.laws.events_leave_courses.Goals as goal

pub returns : goal.returns
returns c = record { stay = receives_stay; courses = leave_courses c.moves_keep_worlds.ensures }
