use Rattle.zst_laws.proofs.pools.HoldingSessions.{steps_ask_none}
use Rattle.zst_laws.proofs.holding_sessions.steps_ask_no_session.Goals as goal

pub returns : goal.returns
returns c = steps_ask_none
