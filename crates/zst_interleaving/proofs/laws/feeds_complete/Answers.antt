use Rattle.zst_interleaving.proofs.OnCourse.{feeds_complete, fit_complete}
use Rattle.zst_interleaving.proofs.laws.feeds_complete.Goals as goal

pub returns-clause-made : goal.returns-clause-made
returns-clause-made c = feeds_complete c.grounds_stand.ensures c.partial_states_are_their_sessions.ensures.stands

pub returns-clause-sent : goal.returns-clause-sent
returns-clause-sent c = fit_complete c.grounds_stand.ensures c.partial_states_are_their_sessions.ensures.stands
