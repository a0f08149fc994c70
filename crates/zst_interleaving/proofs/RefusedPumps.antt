-- A pump whose BEGIN is refused.
use Rattle.std.proofs.Common.{refl, sym, subst}
use Rattle.zst_model.specs.pools.KeptPool.{kept_of}
use Rattle.zst_model.specs.pools.Pool.{Pool}
use Rattle.zst_recv.specs.ReceiveSteps.{Stage, pool_of}
use Rattle.zst_replication.specs.Outcomes.{HasNothing}
use Rattle.zst_replication.proofs.StoppedReceives.{start_untouched}
use Rattle.zst_script.specs.declared.event.Event.TheVariants as events
use Rattle.zst_sessions.specs.Moves.{feeding, moved}
use Rattle.zst_sessions.specs.Replay.{AsDefined}
use Rattle.zst_sessions.specs.World.{at_side, next_piece}
use Rattle.zst_interleaving.specs.Events.{RefusedPumpsLeaveNothing}
use Rattle.zst_interleaving.specs.Feeds.{RefusedLeaveNothing}
use Rattle.zst_interleaving.proofs.Pumps.{by_pump}

pub refused_pumps : RefusedLeaveNothing → RefusedPumpsLeaveNothing
refused_pumps feeds now world next sends receives count answer send receive also start fault moves found there waits none can front refused =
    let pool = (at_side receive.side world).pool in
    let piece = next_piece count send in
    let pump = events.Pump sends receives count in
    let nothing = subst (λ (s : Stage). HasNothing receive.ask (kept_of pool) (kept_of (pool_of (feeding receive.ask receive.text piece s pool)))) (sym waits)
    (feeds also start receive.ask pool receive.text piece fault can none front refused) in
    let leaves = by_pump now world sends receives count send receive found there (λ (p : Pool). HasNothing receive.ask (kept_of pool) p) (start_untouched receive.ask pool pool refl) nothing in
    (leaves next answer moves, leaves (moved now pump world).world (moved now pump world).answer (AsDefined refl refl))
