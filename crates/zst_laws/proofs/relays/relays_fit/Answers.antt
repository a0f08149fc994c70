use Rattle.zst_laws.proofs.pools.Relays.{less_redacted_base, sets_grow, source_lists}
use Rattle.zst_laws.proofs.relays.relays_fit.Goals as goal

pub returns : goal.returns
returns c = record { grow = sets_grow; lists = source_lists; less = less_redacted_base }
