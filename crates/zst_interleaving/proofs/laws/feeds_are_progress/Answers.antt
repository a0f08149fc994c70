use Rattle.zst_interleaving.proofs.OnCourse.{feeds_progress, feeds_stay}
use Rattle.zst_interleaving.proofs.laws.feeds_are_progress.Goals as goal

pub returns-clause-progress : goal.returns-clause-progress
returns-clause-progress c = feeds_progress c.grounds_stand.ensures c.partial_states_are_their_sessions.ensures.stands

pub returns-clause-stay : goal.returns-clause-stay
returns-clause-stay c = feeds_stay c.grounds_stand.ensures c.partial_states_are_their_sessions.ensures.stands
