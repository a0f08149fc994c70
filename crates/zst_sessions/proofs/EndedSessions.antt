-- What is kept of two pools stands for the world in which the sessions of one of them have ended.
use Rattle.std.proofs.Common.{◌≡◌, ◌≢◌, Bool, true, false, not, List, filter, get_or, refl, ap}
use Rattle.std.specs.List.{All}
use Rattle.std.specs.Prelude.{IsTrue}
use Rattle.std.proofs.lemmas.List.Elements.{All-filter, filter_passes}
use Rattle.std.proofs.lemmas.List.Kept.{AllPairs-filter}
use Rattle.zst_dir.proofs.Matches.{filter-Match}
use Rattle.zst_dir.specs.RowNames.{Match}
use Rattle.zst_image.specs.Commits.{Ready}
use Rattle.zst_image.specs.Reads.{Reads}
use Rattle.zst_model.specs.pools.KeptPool.{kept_of}
use Rattle.zst_model.specs.pools.Pool.{Pool}
use Rattle.zst_script.specs.declared.event.Side.{Side}
use Rattle.zst_script.specs.declared.event.Side.TheVariants.{Here, There}
use Rattle.zst_send.specs.Sends.{SendFits}
use Rattle.zst_sessions.proofs.Beside.{Match-each}
use Rattle.zst_sessions.specs.EngineSteps.{ReceiveFits, SessionsFit, here_with, target_of, there_with}
use Rattle.zst_sessions.specs.Engines.{Kept, PoolStands, ReceiveStandsOn, SendStandsOn, Stands, kept_at}
use Rattle.zst_sessions.specs.Lawfulness.{IsWorld}
use Rattle.zst_sessions.specs.Moves.{ended, reopened}
use Rattle.zst_sessions.specs.World.{OpenPool, World, at_side, is_side, put_side}
use Rattle.zst_sessions.specs.declared.open_sessions.OpenReceive as kept_receives
use Rattle.zst_sessions.specs.declared.open_sessions.OpenSend as kept_sends

-- ---- the world

-- what is left of a world where the sessions of a pool have ended: what its image keeps of it, with this mark
abbrev pub left_at : Side → (failed : Bool) → World → World
left_at side failed world =
    record (put_side side (record { pool = kept_of (at_side side world).pool; failed = failed }) world) {
      sends = filter (λ send. not (is_side send.side side)) world.sends;
      receives = filter (λ receive. not (is_side receive.side side)) world.receives;
    }

-- so it is where the pool was opened again, where no session is left, and where its disk failed then
pub is_reopened : (side : Side) (world : World) → left_at side false world ≡ reopened side world
is_reopened Here world = refl
is_reopened There world = refl

pub is_ended : (side : Side) (world : World) → left_at side (at_side side world).failed world ≡ ended side world
is_ended Here world = refl
is_ended There world = refl

pub is_lost : (side : Side) (world : World) → left_at side true world ≡ put_side side (record { pool = kept_of (at_side side world).pool; failed = true }) (ended side world)
is_lost Here world = refl
is_lost There world = refl

pub ended_pool : (side : Side) (world : World) → kept_of (at_side side world).pool ≡ (at_side side (ended side world)).pool
ended_pool Here world = refl
ended_pool There world = refl

-- ---- one pool

-- what a read gives of a pool that stands is what is kept of it, also where its disk has failed
pub reads_as_kept : (tight : Bool) (kept : Kept) (opened : OpenPool) → PoolStands tight kept opened → IsTrue kept.tells → Reads tight (kept_of opened.pool) kept.disk.seen
reads_as_kept tight kept opened stands tells = go kept.failed refl
  where
    go : (failed : Bool) → kept.failed ≡ failed → Reads tight (kept_of opened.pool) kept.disk.seen
    go true is = stands.lost is tells
    go false is = let rest = stands.rests is in (kept.state.body, rest.rows, rest.rests.reads)

-- ---- one session

-- a session that stays is of the other pool, which is as it was
pub other_kept : (P : Kept → Type 0) (side at : Side) (here there new : Kept) → not (is_side at side) ≡ true → P (kept_at at here there) → P (kept_at at (here_with side new here) (there_with side new there))
other_kept P Here Here here there new stays is = absurd (cc)
other_kept P Here There here there new stays is = is
other_kept P There Here here there new stays is = is
other_kept P There There here there new stays is = absurd (cc)

other_pool : (Q : Pool → Type 0) (side at : Side) (failed : Bool) (world : World) → not (is_side at side) ≡ true → Q (at_side at world).pool → Q (at_side at (left_at side failed world)).pool
other_pool Q Here Here failed world stays is = absurd (cc)
other_pool Q Here There failed world stays is = is
other_pool Q There Here failed world stays is = is
other_pool Q There There failed world stays is = absurd (cc)

-- ---- lists

-- what stays of lists that match goes on to match
pub stay_match : {A B : Type 0} (Is After : A → B → Type 0) (p : A → Bool) (q : B → Bool) → ((x : A) (y : B) → Is x y → p x ≡ q y) → ((x : A) (y : B) → q y ≡ true → Is x y → After x y)
    → (xs : List A) (ys : List B) → Match Is xs ys → Match After (filter p xs) (filter q ys)
stay_match Is After p q same make xs ys m = Match-each (λ y. q y ≡ true) Is After make (filter p xs) (filter q ys) (filter_passes q ys) (filter-Match Is p q same xs ys m)

module _ (side : Side) (here there new : Kept) where
  abbrev stays : Side → Bool
  stays at = not (is_side at side)

  sends_left : (sends : List kept_sends.OpenSend) (world : World) → Match (λ one send. SendStandsOn (kept_at send.side here there) one send) sends world.sends
      → Match (λ one send. SendStandsOn (kept_at send.side (here_with side new here) (there_with side new there)) one send) (filter (λ one. stays one.side) sends) (filter (λ send. stays send.side) world.sends)
  sends_left sends world match =
      stay_match (λ one send. SendStandsOn (kept_at send.side here there) one send) (λ one send. SendStandsOn (kept_at send.side (here_with side new here) (there_with side new there)) one send)
      (λ one. stays one.side) (λ send. stays send.side) (λ one send is. ap (λ (s : Side). stays s) is.side)
      (λ one send goes is. other_kept (λ k. SendStandsOn k one send) side send.side here there new goes is) sends world.sends match

  receives_left : (receives : List kept_receives.OpenReceive) (failed : Bool) (world : World)
      → Match (λ one receive. ReceiveStandsOn true (kept_at receive.side here there) (at_side receive.side world).pool one receive) receives world.receives
      → Match (λ one receive. ReceiveStandsOn true (kept_at receive.side (here_with side new here) (there_with side new there)) (at_side receive.side (left_at side failed world)).pool one receive)
      (filter (λ one. stays one.side) receives) (filter (λ receive. stays receive.side) world.receives)
  receives_left receives failed world match =
      stay_match (λ one receive. ReceiveStandsOn true (kept_at receive.side here there) (at_side receive.side world).pool one receive)
      (λ one receive. ReceiveStandsOn true (kept_at receive.side (here_with side new here) (there_with side new there)) (at_side receive.side (left_at side failed world)).pool one receive)
      (λ one. stays one.side) (λ receive. stays receive.side) (λ one receive is. ap (λ (s : Side). stays s) is.side)
      (λ one receive goes is.
      other_pool (λ p. ReceiveStandsOn true (kept_at receive.side (here_with side new here) (there_with side new there)) p one receive) side receive.side failed world goes
      (other_kept (λ k. ReceiveStandsOn true k (at_side receive.side world).pool one receive) side receive.side here there new goes is)) receives world.receives match

  -- what is kept of the sessions that stay is in its ranges
  receives_fit : (receives : List kept_receives.OpenReceive) → All (λ one. ReceiveFits (kept_at one.side here there).state.dir one) receives
      → All (λ one. ReceiveFits (kept_at one.side (here_with side new here) (there_with side new there)).state.dir one) (filter (λ one. stays one.side) receives)
  receives_fit receives fits k d lt =
      let rest = filter (λ (one : kept_receives.OpenReceive). stays one.side) receives in
      let one = get_or rest k d in
      other_kept (λ kept. ReceiveFits kept.state.dir one) side one.side here there new (filter_passes (λ (r : kept_receives.OpenReceive). stays r.side) receives k d lt)
      (All-filter (λ (r : kept_receives.OpenReceive). stays r.side) (λ (r : kept_receives.OpenReceive). ReceiveFits (kept_at r.side here there).state.dir r) receives fits k d lt)

-- ---- both pools

-- What is kept stands for what is left, where it stands for what is left of the pool.
pub stands_left : (side : Side) (failed : Bool) (here there new : Kept) (sends : List kept_sends.OpenSend) (receives : List kept_receives.OpenReceive) (world : World)
    → Stands true here there sends receives world → PoolStands true new (record { pool = kept_of (at_side side world).pool; failed = failed }) → IsWorld (left_at side failed world)
    → Stands true (here_with side new here) (there_with side new there) (filter (λ one. not (is_side one.side side)) sends) (filter (λ one. not (is_side one.side side)) receives) (left_at side failed world)
stands_left Here failed here there new sends receives world stands is lawful = record {
  here_stands = is;
  there_stands = stands.there_stands;
  send_stands = sends_left Here here there new sends world stands.send_stands;
  receive_stands = receives_left Here here there new receives failed world stands.receive_stands;
  lawful = lawful;
}
stands_left There failed here there new sends receives world stands is lawful = record {
  here_stands = stands.here_stands;
  there_stands = is;
  send_stands = sends_left There here there new sends world stands.send_stands;
  receive_stands = receives_left There here there new receives failed world stands.receive_stands;
  lawful = lawful;
}

-- And it is in its ranges, where the next commit of the pool can be made.
pub fits_left : (side : Side) (here there new : Kept) (sends : List kept_sends.OpenSend) (receives : List kept_receives.OpenReceive) → (new.failed ≡ false → Ready new.disk new.state.body)
    → SessionsFit here there sends receives
    → SessionsFit (here_with side new here) (there_with side new there) (filter (λ one. not (is_side one.side side)) sends) (filter (λ one. not (is_side one.side side)) receives)
fits_left Here here there new sends receives ready fits = record {
  here_ready = ready;
  there_ready = fits.there_ready;
  sends_fit = All-filter (λ (one : kept_sends.OpenSend). not (is_side one.side Here)) (λ (one : kept_sends.OpenSend). SendFits one.send) sends fits.sends_fit;
  receives_fit = receives_fit Here here there new receives fits.receives_fit;
  targets = AllPairs-filter (λ (a b : kept_receives.OpenReceive). a.side ≡ b.side → target_of a ≢ target_of b) (λ (one : kept_receives.OpenReceive). not (is_side one.side Here)) receives fits.targets;
}
fits_left There here there new sends receives ready fits = record {
  here_ready = fits.here_ready;
  there_ready = ready;
  sends_fit = All-filter (λ (one : kept_sends.OpenSend). not (is_side one.side There)) (λ (one : kept_sends.OpenSend). SendFits one.send) sends fits.sends_fit;
  receives_fit = receives_fit There here there new receives fits.receives_fit;
  targets = AllPairs-filter (λ (a b : kept_receives.OpenReceive). a.side ≡ b.side → target_of a ≢ target_of b) (λ (one : kept_receives.OpenReceive). not (is_side one.side There)) receives fits.targets;
}
