use Rattle.zst_laws.proofs.pools.HoldingSessions.{held_dataset, held_snapshot, held_newer, held_target, free_ones}
use Rattle.zst_laws.proofs.holding_sessions.sessions_hold_back.Goals as goal

pub returns : goal.returns
returns c = record { dataset = held_dataset; snapshot = held_snapshot; newer = held_newer; target = held_target; free = free_ones }
