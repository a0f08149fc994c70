-- A world of which one pool, and the receives, have changed.
use Rattle.std.proofs.Common.{◌≡◌, ◌≢◌, inl, inr, ℕ, true, not, List, ◌++◌, map, filter, refl, sym, ap, ◌==◌}
use Rattle.std.specs.List.{Contains}
use Rattle.zst_dir.specs.RowNames.{Match}
use Rattle.zst_model.specs.pools.Pool.{Pool}
use Rattle.zst_recv.specs.ReceiveSteps.{Waits, Lives, Ends, Fed, Goes, Stops, pool_of}
use Rattle.zst_script.specs.declared.event.Side.{Side}
use Rattle.zst_script.specs.declared.event.Side.TheVariants.{Here, There}
use Rattle.zst_sessions.proofs.SessionLists.{pair_of}
use Rattle.zst_sessions.specs.EngineSteps.{here_with, there_with}
use Rattle.zst_sessions.specs.Engines.{Kept, PoolStands, ReceiveStandsOn, SendStandsOn, Stands, kept_at}
use Rattle.zst_sessions.specs.Lawfulness.{IsWorld}
use Rattle.zst_sessions.specs.Moves.{fed_to}
use Rattle.zst_sessions.specs.World.{OpenPool, OpenReceive, OpenSend, World, at_side, moved_to, put_side}
use Rattle.zst_sessions.specs.declared.open_sessions.OpenReceive as kept_receives
use Rattle.zst_sessions.specs.declared.open_sessions.OpenSend as kept_sends

-- the world with another pool on a side, and with other receives
abbrev pub changed : Side → OpenPool → (List OpenReceive → List OpenReceive) → World → World
changed side pool change world = record (put_side side pool world) { receives = change (put_side side pool world).receives }

-- the pool there is that one
pub pool_at : (side : Side) (pool : OpenPool) (change : List OpenReceive → List OpenReceive) (world : World) → (at_side side (changed side pool change world)).pool ≡ pool.pool
pool_at Here pool change world = refl
pool_at There pool change world = refl

-- and another may be put there
pub put_again : (side : Side) (pool other : OpenPool) (change : List OpenReceive → List OpenReceive) (world : World) → put_side side other (changed side pool change world) ≡ changed side other change world
put_again Here pool other change world = refl
put_again There pool other change world = refl

-- sessions are no part of the pools
pub same_pools : (side : Side) (sends : List OpenSend) (world : World) → at_side side (record world { sends = sends }) ≡ at_side side world
same_pools Here sends world = refl
same_pools There sends world = refl

-- what a feed makes of the pool of its receive is there
pub fed_pool : (receive : OpenReceive) (piece : List ℕ) (applied : ℕ) (world : World) (fed : Fed) → (at_side receive.side (fed_to receive piece applied world fed).world).pool ≡ pool_of fed
fed_pool receive piece applied world (Stops pool refusal) =
    pool_at receive.side (record { pool = pool; failed = (at_side receive.side world).failed }) (filter (λ r. not (r.id == receive.id))) world
fed_pool receive piece applied world (Goes pool Waits) =
    pool_at receive.side (record { pool = pool; failed = (at_side receive.side world).failed }) (map (moved_to receive.id (receive.text ++ piece) Waits)) world
fed_pool receive piece applied world (Goes pool (Lives flags partial)) =
    pool_at receive.side (record { pool = pool; failed = (at_side receive.side world).failed }) (map (moved_to receive.id (receive.text ++ piece) (Lives flags partial))) world
fed_pool receive piece applied world (Goes pool (Ends partial)) =
    pool_at receive.side (record { pool = pool; failed = (at_side receive.side world).failed }) (filter (λ r. not (r.id == receive.id))) world

-- what is kept of a side stands for the pool there
pub side_stands : (side : Side) (here there : Kept) (world : World) → PoolStands true here world.here → PoolStands true there world.there → PoolStands true (kept_at side here there) (at_side side world)
side_stands Here here there world one other = one
side_stands There here there world one other = other

-- what holds of what is kept of the changed side holds of it on its side
pub on_side : (Q : Kept → Pool → Type 0) (side : Side) (here there new : Kept) (pool : OpenPool) (change : List OpenReceive → List OpenReceive) (world : World) → Q new pool.pool
    → Q (kept_at side (here_with side new here) (there_with side new there)) (at_side side (changed side pool change world)).pool
on_side Q Here here there new pool change world is = is
on_side Q There here there new pool change world is = is

-- What is kept stands for the changed world, where the pool of the side, the sends and the receives do.
pub stands_changed : (side : Side) (here there new : Kept) (sends : List kept_sends.OpenSend) (receives left : List kept_receives.OpenReceive) (world : World) (pool : OpenPool) (change : List OpenReceive → List OpenReceive)
    → Stands true here there sends receives world → PoolStands true new pool
    → Match (λ one send. SendStandsOn (kept_at send.side (here_with side new here) (there_with side new there)) one send) sends world.sends
    → Match (λ one receive. ReceiveStandsOn true (kept_at receive.side (here_with side new here) (there_with side new there)) (at_side receive.side (changed side pool change world)).pool one receive) left (change world.receives)
    → IsWorld (changed side pool change world) → Stands true (here_with side new here) (there_with side new there) sends left (changed side pool change world)
stands_changed Here here there new sends receives left world pool change stands is sends_match receives_match lawful =
    record { here_stands = is; there_stands = stands.there_stands; send_stands = sends_match; receive_stands = receives_match; lawful = lawful }
stands_changed There here there new sends receives left world pool change stands is sends_match receives_match lawful =
    record { here_stands = stands.here_stands; there_stands = is; send_stands = sends_match; receive_stands = receives_match; lawful = lawful }

-- ---- the receives of a lawful world

module _ (world : World) (lawful : IsWorld world) (a b : OpenReceive) (there : Contains world.receives a) (also : Contains world.receives b) where
  -- two with one id are one
  pub one_id : a.id ≡ b.id → a ≡ b
  one_id same = elim (pair_of (λ a b. a.id ≢ b.id) world.receives a b lawful.receives there also) [
    | inl e ↦ e
    | inr (inl apart) ↦ absurd (apart same)
    | inr (inr apart) ↦ absurd (apart (sym same))
  ]

  -- and two into one pool have two targets
  pub other_target : a.id ≢ b.id → a.side ≡ b.side → a.ask.target ≢ b.ask.target
  other_target apart sides = elim (pair_of (λ a b. a.side ≡ b.side → a.ask.target ≢ b.ask.target) world.receives a b lawful.targets there also) [
    | inl e ↦ absurd (apart (ap (λ (r : OpenReceive). r.id) e))
    | inr (inl differ) ↦ differ sides
    | inr (inr differ) ↦ (λ same. differ (sym sides) (sym same))
  ]
