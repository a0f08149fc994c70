-- What a pool that was only read keeps: it stands for the pool that it stood for, and so do the sessions on it.
use Rattle.std.proofs.Common.{◌≡◌, ap, find, ◌||◌, ℕ, Bool, true, false, List, take, Err, refl, sym, ◌∙◌, subst, get_or, arith}
use Rattle.std.specs.Prelude.{IsTrue, Result}
use Rattle.zst_outside.specs.Images.{DiskState, Leaves, Leaves-none, Leaves-weaker, OnlyReads, OnlyReads-none}
use Rattle.zst_outside.specs.declared.disk.Disk.{Ghosts}
use Rattle.zst_block.proofs.BlocksLaws.{FillsFree-reads}
use Rattle.zst_block.specs.Blocks.{Has}
use Rattle.zst_block.specs.IoCalls.{fails}
use Rattle.zst_block.specs.IoStates.{disk_of}
use Rattle.zst_dir.specs.RowNames.{Match}
use Rattle.zst_dir.specs.Rows.{IsLawful, is_for}
use Rattle.zst_image.specs.Commits.{Ready}
use Rattle.zst_image.specs.Bodies.{free_by}
use Rattle.zst_image.specs.Reads.{Reads, ReadsAs, RunsBy, bound_of}
use Rattle.zst_image.specs.declared.pool_state.PoolState.{PoolState}
use Rattle.zst_model.specs.pools.KeptPool.{kept_of}
use Rattle.zst_model.specs.pools.Pool.{Pool}
use Rattle.zst_pool.proofs.PoolsAtRest.{ready_after}
use Rattle.zst_pool.specs.Calls.{IsAtRest}
use Rattle.zst_pool.specs.Queries.{stop_of}
use Rattle.zst_pool.specs.declared.fault.PoolFault.{PoolFault}
use Rattle.zst_pool.specs.declared.fault.PoolFault.TheVariants as faults
use Rattle.zst_pool.specs.declared.pool.Pool as pools
use Rattle.zst_recv.specs.GoingOn.{IsRow}
use Rattle.zst_recv.specs.Stages.{RecvFits, Receives, ask_of, stage_of}
use Rattle.zst_script.specs.declared.event.Side.{Side}
use Rattle.zst_script.specs.declared.event.Side.TheVariants.{Here, There}
use Rattle.zst_send.specs.Sends.{SendsFrom, begun_text}
use Rattle.zst_sessions.proofs.Beside.{Match-each}
use Rattle.zst_sessions.proofs.SparedBlocks.{read_blocks, read_extents}
use Rattle.zst_sessions.specs.EngineSteps.{IsLaterPool, KeepsSessions, ReceiveFits, SessionsFit, here_with, kept_pool, there_with}
use Rattle.zst_sessions.specs.Engines.{Kept, PoolStands, ReceiveStandsOn, SendStandsOn, kept_at}
use Rattle.zst_sessions.specs.Takes.{LooksAtPool, WasOnlyRead}
use Rattle.zst_sessions.specs.World.{OpenPool, OpenReceive, OpenSend, World, at_side, left_of}
use Rattle.zst_sessions.specs.declared.open_sessions.OpenReceive as kept_receives
use Rattle.zst_sessions.specs.declared.open_sessions.OpenSend as kept_sends

-- ---- disks

-- from a disk that was only read the next commit can be made as before
pub ready_read : (old new : DiskState) (kept : PoolState) → OnlyReads old new → Ready old kept.body → Ready new kept.body
ready_read old new kept reads ready = ready_after old new (free_by kept.body) (free_by kept.body) kept.body refl (FillsFree-reads old new (free_by kept.body) reads) ready

-- and a pool at rest on it still is
pub rests_read : (tight : Bool) (old new : DiskState) (kept : PoolState) (running : Pool) → OnlyReads old new → IsAtRest tight old kept running → IsAtRest tight new kept running
rests_read tight old new kept running reads rest = record {
  rows = rest.rows;
  lasting = rest.lasting;
  rests = record {
    reads = subst (ReadsAs tight kept.body rest.rows (kept_of running)) (sym reads.seen) rest.rests.reads;
    each = λ c image. rest.rests.each c (reads.crash c image);
  };
  runs_by = subst (λ (seen : List ℕ). RunsBy (bound_of tight running.number) (Has seen (free_by kept.body)) kept.dir running) (sym reads.seen) rest.runs_by;
  lawful = rest.lawful;
}

-- ---- pools as they are kept

-- where nothing was done
pub read_none : (kept : Kept) → WasOnlyRead kept kept
read_none kept = record { reads = OnlyReads-none kept.disk; idle = λ fell. Leaves-none kept.disk (λ c. ⊥); tells = refl; state = refl; mark = λ works. works }

-- it stands for the pool with the mark that it has
pub pool_read : (tight : Bool) (old new : Kept) (pool : Pool) (was is : Bool) → WasOnlyRead old new → new.failed ≡ is
    → PoolStands tight old (record { pool = pool; failed = was }) → PoolStands tight new (record { pool = pool; failed = is })
pool_read tight old new pool was is read mark stands = record {
  mark = mark;
  rests = λ works. subst (λ (state : PoolState). IsAtRest tight new.disk state pool) (sym read.state) (rests_read tight old.disk new.disk old.state pool read.reads (stands.rests (read.mark works)));
  ready = λ works. subst (λ (state : PoolState). Ready new.disk state.body) (sym read.state) (ready_read old.disk new.disk old.state read.reads (stands.ready (read.mark works)));
  lost = λ fell tells. subst (Reads tight (kept_of pool)) (sym read.reads.seen) (reads_as old.failed refl (subst IsTrue read.tells tells));
}
  where
    -- what a read gave before
    reads_as : (failed : Bool) → old.failed ≡ failed → IsTrue old.tells → Reads tight (kept_of pool) old.disk.seen
    reads_as true is tells = stands.lost is tells
    reads_as false is tells = let rest = stands.rests is in (old.state.body, rest.rows, rest.rests.reads)

-- and each image reads as that pool, as before
pub moments_read : (tight : Bool) (old new : Kept) (opened : OpenPool) → WasOnlyRead old new → PoolStands tight old opened → Leaves old.disk new.disk (Reads tight (kept_of opened.pool))
moments_read tight old new opened read stands = go old.failed refl
  where
    go : (failed : Bool) → old.failed ≡ failed → Leaves old.disk new.disk (Reads tight (kept_of opened.pool))
    go true is = Leaves-weaker old.disk new.disk (λ c. ⊥) (Reads tight (kept_of opened.pool)) (read.idle is) (λ c none. absurd none)
    go false is =
        let rest = stands.rests is in
        Leaves-weaker old.disk new.disk old.disk.images (Reads tight (kept_of opened.pool)) read.reads.time (λ c image. (old.state.body, rest.rows, rest.rests.each c image))

-- and it keeps all sessions
pub read_keeps : (old new : Kept) → WasOnlyRead old new → (old.failed ≡ false → Ready old.disk old.state.body) → IsLawful old.state.dir → KeepsSessions (λ target. ⊥) old new
read_keeps old new read ready lawful = record {
  leaves = record {
    mark = read.mark;
    ready = λ works. subst (λ (state : PoolState). Ready new.disk state.body) (sym read.state) (ready_read old.disk new.disk old.state read.reads (ready (read.mark works)));
    lawful = subst (λ (state : PoolState). IsLawful state.dir) (sym read.state) lawful;
    rows = λ target other. ap (λ (state : PoolState). find (is_for target) state.dir.partials) read.state;
  };
  blocks = λ works. read_blocks old new read;
  extents = λ works. read_extents old new read;
}

-- a call found no memory before it did anything
pub looks_unmoved : {T D : Type 0} {g : Ghosts D} (old new : pools.Pool D g) → new ≡ old → old.io.failed ≡ false → LooksAtPool {T = T} old new (Err faults.OutOfMemory)
looks_unmoved {T = T} {D = D} {g = g} old new same works = subst (λ (p : pools.Pool D g). LooksAtPool {T = T} old p (Err faults.OutOfMemory)) (sym same) (record {
  failed_pool = λ fell. absurd (let both : true ≡ false = sym fell ∙ works in cc both);
  idle = λ fell. refl;
  open_still = λ alive is. cc is;
  reads = OnlyReads-none (disk_of old.io);
  never_full = λ need largest is. cc is;
  kept = refl;
  failed = works ∙ ap (λ (b : Bool). b || false) (sym works);
  cause = record { later = omega arith; fault = λ is. absurd (cc is) };
  same = refl;
})

-- ---- sessions

-- a send stands where it stood
pub send_read : (old new : Kept) (one : kept_sends.OpenSend) (send : OpenSend) → WasOnlyRead old new → SendStandsOn old one send → SendStandsOn new one send
send_read old new one send read is = record {
  id = is.id;
  side = is.side;
  holds = is.holds;
  fits = is.fits;
  within = is.within;
  sends = λ works.
      subst (λ (state : PoolState). SendsFrom (Has new.disk.seen (free_by state.body)) one.send send.sent send.start (take send.given (begun_text send.sent send.start)) (left_of send)) (sym read.state)
      (subst (λ (seen : List ℕ). SendsFrom (Has seen (free_by old.state.body)) one.send send.sent send.start (take send.given (begun_text send.sent send.start)) (left_of send)) (sym read.reads.seen)
      (is.sends (read.mark works)));
}

-- and so does a receive
pub receive_read : (tight : Bool) (old new : Kept) (pool : Pool) (one : kept_receives.OpenReceive) (receive : OpenReceive) → WasOnlyRead old new → ReceiveStandsOn tight old pool one receive
    → ReceiveStandsOn tight new pool one receive
receive_read tight old new pool one receive read is = record {
  id = is.id;
  side = is.side;
  ask = is.ask;
  live = is.live;
  fits = subst (λ (state : PoolState). RecvFits state.dir one.recv) (sym read.state) is.fits;
  row = subst (λ (state : PoolState). IsRow state.dir (ask_of one.recv).target (stage_of one.recv)) (sym read.state) is.row;
  fed = is.fed;
  receives = λ works.
      subst (λ (state : PoolState). Receives (bound_of tight pool.number) (Has new.disk.seen (free_by state.body)) one.recv receive.text receive.stage) (sym read.state)
      (subst (λ (seen : List ℕ). Receives (bound_of tight pool.number) (Has seen (free_by old.state.body)) one.recv receive.text receive.stage) (sym read.reads.seen)
      (is.receives (read.mark works)));
}

-- ---- two pools

module _ (here there here' there' : Kept) (read_here : WasOnlyRead here here') (read_there : WasOnlyRead there there') where
  pub at_read : (at : Side) → WasOnlyRead (kept_at at here there) (kept_at at here' there')
  at_read Here = read_here
  at_read There = read_there

  pub sends_read : (coded : List kept_sends.OpenSend) (sends : List OpenSend) → Match (λ one send. SendStandsOn (kept_at send.side here there) one send) coded sends
      → Match (λ one send. SendStandsOn (kept_at send.side here' there') one send) coded sends
  sends_read coded sends match =
      Match-each (λ send. Unit {0}) (λ one send. SendStandsOn (kept_at send.side here there) one send) (λ one send. SendStandsOn (kept_at send.side here' there') one send)
      (λ one send so is. send_read (kept_at send.side here there) (kept_at send.side here' there') one send (at_read send.side) is) coded sends (λ k d lt. tt) match

  -- receives of a world whose pools are the same
  pub receives_read : (world next : World) → ((of : Side) → (at_side of world).pool ≡ (at_side of next).pool) → (coded : List kept_receives.OpenReceive) (receives : List OpenReceive)
      → Match (λ one receive. ReceiveStandsOn true (kept_at receive.side here there) (at_side receive.side world).pool one receive) coded receives
      → Match (λ one receive. ReceiveStandsOn true (kept_at receive.side here' there') (at_side receive.side next).pool one receive) coded receives
  receives_read world next same coded receives match =
      Match-each (λ receive. Unit {0}) (λ one receive. ReceiveStandsOn true (kept_at receive.side here there) (at_side receive.side world).pool one receive)
      (λ one receive. ReceiveStandsOn true (kept_at receive.side here' there') (at_side receive.side next).pool one receive)
      (λ one receive so is.
      subst (λ (pool : Pool). ReceiveStandsOn true (kept_at receive.side here' there') pool one receive) (same receive.side)
      (receive_read true (kept_at receive.side here there) (kept_at receive.side here' there') (at_side receive.side world).pool one receive (at_read receive.side) is))
      coded receives (λ k d lt. tt) match

  -- what is kept stays in its ranges
  pub fit_read : (sends : List kept_sends.OpenSend) (receives : List kept_receives.OpenReceive) → SessionsFit here there sends receives → SessionsFit here' there' sends receives
  fit_read sends receives fits = record {
    here_ready = λ works. subst (λ (state : PoolState). Ready here'.disk state.body) (sym read_here.state) (ready_read here.disk here'.disk here.state read_here.reads (fits.here_ready (read_here.mark works)));
    there_ready = λ works. subst (λ (state : PoolState). Ready there'.disk state.body) (sym read_there.state) (ready_read there.disk there'.disk there.state read_there.reads (fits.there_ready (read_there.mark works)));
    sends_fit = fits.sends_fit;
    receives_fit = λ k d lt. subst (λ (state : PoolState). ReceiveFits state.dir (get_or receives k d)) (sym (at_read (get_or receives k d).side).state) (fits.receives_fit k d lt);
    targets = fits.targets;
  }

-- of the two one was only read
pub here_read : (side : Side) (here there new : Kept) → WasOnlyRead (kept_at side here there) new → WasOnlyRead here (here_with side new here)
here_read Here here there new read = read
here_read There here there new read = read_none here

pub there_read : (side : Side) (here there new : Kept) → WasOnlyRead (kept_at side here there) new → WasOnlyRead there (there_with side new there)
there_read Here here there new read = read_none there
there_read There here there new read = read

-- ---- calls

or_false : (a b : Bool) → (a || b) ≡ false → a ≡ false
or_false true b e = e
or_false false b e = refl

module _ {D : Type 0} {g : Ghosts D} {T : Type 0} (old new : pools.Pool D g) (result : Result T PoolFault) (looks : LooksAtPool old new result) where
  -- a call that only looked at a pool only read it
  pub looked_at : WasOnlyRead (kept_pool old) (kept_pool new)
  looked_at = record {
    reads = looks.reads;
    idle = λ fell. subst (λ (pool : pools.Pool D g). Leaves (disk_of old.io) (disk_of pool.io) (λ c. ⊥)) (sym (looks.idle fell)) (Leaves-none (disk_of old.io) (λ c. ⊥));
    tells = refl;
    state = looks.kept;
    mark = λ works. or_false old.io.failed (fails (stop_of result)) (sym looks.failed ∙ works);
  }

  -- and its count of faults didn't fall
  pub looked_later : IsLaterPool old new
  looked_later = record { faults = looks.cause.later; honest = looks.reads.honest; same = looks.same }
