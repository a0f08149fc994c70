use Rattle.zst_laws.proofs.pools.HoldingSessions.{busy_sessions}
use Rattle.zst_laws.proofs.holding_sessions.busy_sessions_are_named.Goals as goal

pub returns : goal.returns
returns c = busy_sessions
