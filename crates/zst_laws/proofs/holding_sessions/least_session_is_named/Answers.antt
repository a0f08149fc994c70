use Rattle.zst_laws.proofs.pools.HoldingSessions.{sessions_have, claims_count, least_named}
use Rattle.zst_laws.proofs.holding_sessions.least_session_is_named.Goals as goal

pub returns : goal.returns
returns c = record { values = sessions_have; claims = claims_count; least = least_named }
