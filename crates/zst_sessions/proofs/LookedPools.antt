-- Two pools of which one was looked at, by a call that only reads its disk.
use Rattle.std.proofs.Common.{◌≡◌, ◌||◌, ◌⊎◌, ℕ, true, false, List, length, Result, Err, inl, inr, sym, ap, ◌∙◌, subst}
use Rattle.zst_outside.specs.Causes.{Rose}
use Rattle.zst_outside.specs.declared.disk.Disk.{Ghosts}
use Rattle.zst_block.specs.IoCalls.{fails}
use Rattle.zst_block.specs.IoStates.{disk_of}
use Rattle.zst_pool.specs.Calls.{IsAtRest}
use Rattle.zst_pool.specs.Queries.{stop_of}
use Rattle.zst_pool.specs.declared.fault.PoolFault.{PoolFault}
use Rattle.zst_pool.specs.declared.fault.PoolFault.TheVariants as faults
use Rattle.zst_pool.specs.declared.pool.Pool.{Pool}
use Rattle.zst_script.specs.declared.event.Event.{Event}
use Rattle.zst_script.specs.declared.event.Side.{Side}
use Rattle.zst_script.specs.declared.event.Side.TheVariants.{Here, There}
use Rattle.zst_sessions.proofs.ReadEvents.{stands_at}
use Rattle.zst_sessions.proofs.ReadPools.{fit_read, looked_at, looked_later, read_none}
use Rattle.zst_sessions.proofs.SparedBlocks.{fell_as, still_works}
use Rattle.zst_sessions.proofs.UnmovedEngines.{stays_later}
use Rattle.zst_sessions.specs.EngineSteps.{EngineFits, IsLaterEngine, IsLaterPool, NoneFailed, SessionsFit, StandsFor, kept_pool}
use Rattle.zst_sessions.specs.Engines.{Steps}
use Rattle.zst_sessions.specs.Moves.{Answer}
use Rattle.zst_sessions.specs.Openings.{LooksAtSide, kept_on}
use Rattle.zst_sessions.specs.Takes.{LooksAtPool, WasOnlyRead}
use Rattle.zst_sessions.specs.World.{World, at_side, other_side}
use Rattle.zst_sessions.specs.declared.engine.Engine.{Engine}
use Rattle.zst_sessions.specs.declared.open_sessions.OpenReceive as kept_receives
use Rattle.zst_sessions.specs.declared.open_sessions.OpenSend as kept_sends

module _ {D : Type 0} {g : Ghosts D} where
  -- What a look at a pool leaves of it, and what it answers of faults.
  pub record LookedAt {T : Type 0} (old new : Pool D g) (result : Result T PoolFault) : Type 0 where
    pub read : WasOnlyRead (kept_pool old) (kept_pool new)
    pub later : IsLaterPool old new
    pub own : new.io.failed ≡ (old.io.failed || fails (stop_of result))
    pub had_failed : old.io.failed ≡ true → result ≡ Err faults.Failed
    pub open_still : old.io.failed ≡ false → ¬ (result ≡ Err faults.Failed)
    pub cause : result ≡ Err faults.DiskFault → Rose (disk_of old.io).faults (disk_of new.io).faults
    pub never_full : (need largest : ℕ) → ¬ (result ≡ Err (faults.Full need largest))

  -- so it is with a call that leaves all of a pool that had failed
  looks_so : {T : Type 0} (old new : Pool D g) (result : Result T PoolFault) → LooksAtPool old new result → LookedAt old new result
  looks_so {T} old new result looks = record {
    read = looked_at old new result looks;
    later = looked_later old new result looks;
    own = looks.failed;
    had_failed = looks.failed_pool;
    open_still = looks.open_still;
    cause = λ lost. looks.cause.fault (ap (λ (r : Result T PoolFault). stop_of r) lost);
    never_full = λ need largest is. looks.never_full need largest (ap (λ (r : Result T PoolFault). stop_of r) is);
  }

module _ {D E : Type 0} {g : Ghosts D} {h : Ghosts E} where
  -- what a look at the pool on a side leaves of both pools, and what it answers of faults
  pub record Looked {T : Type 0} (side : Side) (old new : Engine D E g h) (result : Result T PoolFault) : Type 0 where
    pub here : WasOnlyRead (kept_pool old.here) (kept_pool new.here)
    pub there : WasOnlyRead (kept_pool old.there) (kept_pool new.there)
    pub later : IsLaterEngine old new
    pub own : (kept_on side new).failed ≡ ((kept_on side old).failed || fails (stop_of result))
    pub other : (kept_on (other_side side) new).failed ≡ (kept_on (other_side side) old).failed
    pub had_failed : (kept_on side old).failed ≡ true → result ≡ Err faults.Failed
    pub open_still : (kept_on side old).failed ≡ false → ¬ (result ≡ Err faults.Failed)
    pub cause : result ≡ Err faults.DiskFault → Rose (disk_of old.here.io).faults (disk_of new.here.io).faults ⊎ Rose (disk_of old.there.io).faults (disk_of new.there.io).faults
    pub sends : new.sends.items ≡ old.sends.items
    pub receives : new.receives.items ≡ old.receives.items
    pub room : length new.room.items ≡ length old.room.items
    pub works : ¬ (result ≡ Err faults.DiskFault) → NoneFailed old new
    pub never_full : (need largest : ℕ) → ¬ (result ≡ Err (faults.Full need largest))

  -- only the pool on a side was looked at, and all else was left as it was
  abbrev pub LookedOn : {T : Type 0} → Side → Engine D E g h → Engine D E g h → Result T PoolFault → Type 0
  LookedOn Here old new result = (new ≡ record old { here = new.here }) × LookedAt old.here new.here result
  LookedOn There old new result = (new ≡ record old { there = new.there }) × LookedAt old.there new.there result

  pub looked_on : {T : Type 0} (side : Side) (old new : Engine D E g h) (result : Result T PoolFault) → LookedOn side old new result → Looked side old new result
  looked_on {T} Here old new result is =
      let look = is.1 in
      let there_is = ap (λ (e : Engine D E g h). e.there) is.0 in
      record {
        here = look.read;
        there = subst (λ (pool : Pool E h). WasOnlyRead (kept_pool old.there) (kept_pool pool)) (sym there_is) (read_none (kept_pool old.there));
        later = record {
          here = look.later;
          there = subst (λ (pool : Pool E h). IsLaterPool old.there pool) (sym there_is) (stays_later old.there);
          time = ap (λ (e : Engine D E g h). e.now) is.0;
        };
        own = look.own;
        other = ap (λ (pool : Pool E h). pool.io.failed) there_is;
        had_failed = look.had_failed;
        open_still = look.open_still;
        cause = λ lost. inl (look.cause lost);
        sends = ap (λ (e : Engine D E g h). e.sends.items) is.0;
        receives = ap (λ (e : Engine D E g h). e.receives.items) is.0;
        room = ap (λ (e : Engine D E g h). length e.room.items) is.0;
        never_full = look.never_full;
        works = λ alive. (
          still_works old.here.io.failed (fails (stop_of result)) new.here.io.failed look.own (λ fell. alive (fell_as result fell)),
          λ works. ap (λ (pool : Pool E h). pool.io.failed) there_is ∙ works,
        );
      }
  looked_on {T} There old new result is =
      let look = is.1 in
      let here_is = ap (λ (e : Engine D E g h). e.here) is.0 in
      record {
        here = subst (λ (pool : Pool D g). WasOnlyRead (kept_pool old.here) (kept_pool pool)) (sym here_is) (read_none (kept_pool old.here));
        there = look.read;
        later = record {
          here = subst (λ (pool : Pool D g). IsLaterPool old.here pool) (sym here_is) (stays_later old.here);
          there = look.later;
          time = ap (λ (e : Engine D E g h). e.now) is.0;
        };
        own = look.own;
        other = ap (λ (pool : Pool D g). pool.io.failed) here_is;
        had_failed = look.had_failed;
        open_still = look.open_still;
        cause = λ lost. inr (look.cause lost);
        sends = ap (λ (e : Engine D E g h). e.sends.items) is.0;
        receives = ap (λ (e : Engine D E g h). e.receives.items) is.0;
        room = ap (λ (e : Engine D E g h). length e.room.items) is.0;
        never_full = look.never_full;
        works = λ alive. (
          λ works. ap (λ (pool : Pool D g). pool.io.failed) here_is ∙ works,
          still_works old.there.io.failed (fails (stop_of result)) new.there.io.failed look.own (λ fell. alive (fell_as result fell)),
        );
      }

  pub looked : {T : Type 0} (side : Side) (old new : Engine D E g h) (result : Result T PoolFault) → LooksAtSide side old new result → Looked side old new result
  looked Here old new result is = looked_on Here old new result (is.0, looks_so old.here new.here result is.1)
  looked There old new result is = looked_on There old new result (is.0, looks_so old.there new.there result is.1)

  -- what is kept of the sessions stays in its ranges
  pub fits_still : {T : Type 0} (side : Side) (old new : Engine D E g h) (result : Result T PoolFault) → Looked side old new result → EngineFits old → EngineFits new
  fits_still side old new result l fits = record {
    sessions =
        subst (λ (sends : List kept_sends.OpenSend). SessionsFit (kept_pool new.here) (kept_pool new.there) sends new.receives.items) (sym l.sends)
        (subst (λ (receives : List kept_receives.OpenReceive). SessionsFit (kept_pool new.here) (kept_pool new.there) old.sends.items receives) (sym l.receives)
        (fit_read (kept_pool old.here) (kept_pool old.there) (kept_pool new.here) (kept_pool new.there) l.here l.there old.sends.items old.receives.items fits.sessions));
    room = l.room ∙ fits.room;
  }

  -- what is kept of the pool on the side stays
  pub state_still : {T : Type 0} (side : Side) (old new : Engine D E g h) (result : Result T PoolFault) → Looked side old new result → (kept_on side new).state ≡ (kept_on side old).state
  state_still Here old new result l = l.here.state
  state_still There old new result l = l.there.state

  -- the pool on a side is open where both are
  pub open_on : (side : Side) (engine : Engine D E g h) → engine.here.io.failed ≡ false → engine.there.io.failed ≡ false → (kept_on side engine).failed ≡ false
  open_on Here engine here there = here
  open_on There engine here there = there

  -- and its disk reads as it should where both do
  pub honest_on : (side : Side) (engine : Engine D E g h) → (disk_of engine.here.io).honest → (disk_of engine.there.io).honest → (kept_on side engine).disk.honest
  honest_on Here engine here there = here
  honest_on There engine here there = there

  -- the mark of the pool on a side is the world's
  pub mark_on : (side : Side) (old : Engine D E g h) (world : World) → StandsFor old world → (kept_on side old).failed ≡ (at_side side world).failed
  mark_on side old world stands = (stands_at side (kept_pool old.here) (kept_pool old.there) old.sends.items old.receives.items world stands).mark

  -- and where it is open it is at rest
  pub rest_on : (side : Side) (old : Engine D E g h) (world : World) → StandsFor old world → (kept_on side old).failed ≡ false → IsAtRest true (kept_on side old).disk (kept_on side old).state (at_side side world).pool
  rest_on side old world stands works = (stands_at side (kept_pool old.here) (kept_pool old.there) old.sends.items old.receives.items world stands).rests works

  -- what an event makes of a world, with lists that are the same
  abbrev pub StepsTo : (event : Event) → (old new : Engine D E g h) → World → List kept_sends.OpenSend → List kept_receives.OpenReceive → Answer → Type 0
  StepsTo event old new world sends receives answer = Steps true old.now world event (kept_pool old.here) (kept_pool old.there) (kept_pool new.here) (kept_pool new.there) sends receives answer

  pub same_lists : (event : Event) (old new : Engine D E g h) (world : World) (answer : Answer) (sends more : List kept_sends.OpenSend) (receives also : List kept_receives.OpenReceive)
      → more ≡ sends → also ≡ receives → StepsTo event old new world sends receives answer → StepsTo event old new world more also answer
  same_lists event old new world answer sends more receives also same too steps =
      subst (λ (s : List kept_sends.OpenSend). StepsTo event old new world s also answer) (sym same)
      (subst (λ (r : List kept_receives.OpenReceive). StepsTo event old new world sends r answer) (sym too) steps)
