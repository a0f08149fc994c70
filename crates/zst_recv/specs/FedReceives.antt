-- What a receive is once it was opened, and what a feed leaves of it.
use Rattle.std.specs.Prelude.{◌≡◌, ◌+◌, ◌≤◌, ℕ, Bool, true, false, List, [], length, Option, Result, Err, IfErr, IfOk, IfSome, IsSome}
use Rattle.zst_outside.specs.Images.{DiskState}
use Rattle.zst_space.specs.FreeSectors.{FreeSectors}
use Rattle.zst_block.specs.Blocks.{Has}
use Rattle.zst_dir.specs.Rows.{Rows}
use Rattle.zst_image.specs.declared.pool_state.PoolState.{PoolState}
use Rattle.zst_plan.specs.declared.receive.RecvAsk.{RecvAsk}
use Rattle.zst_pool.specs.declared.fault.PoolFault.TheVariants as pools
use Rattle.zst_reader.specs.InputReads.{stream_limit}
use Rattle.zst_reader.specs.StandsFor.{StandsFor}
use Rattle.zst_recv.specs.Answers.{goes_on}
use Rattle.zst_recv.specs.Damage.{IsDamagedFeed, MakesStage}
use Rattle.zst_recv.specs.Faults.{keeps_before}
use Rattle.zst_recv.specs.ReceiveSteps.{Waits}
use Rattle.zst_recv.specs.Stages.{Receives, RecvFits, ask_of, fed_of, is_live, is_waiting, kept_without, reader_of, received_by, stage_of}
use Rattle.zst_recv.specs.declared.fault.RecvFault.{RecvFault}
use Rattle.zst_recv.specs.declared.fault.RecvFault.TheVariants as faults
use Rattle.zst_recv.specs.declared.recv.FeedReport as coded
use Rattle.zst_recv.specs.declared.recv.Recv.{Recv}
use Rattle.zst_recv.specs.declared.stage.Stage as stages

-- a receive that asks for this, over these rows, of whose stream nothing was read
pub record IsFresh (rows : Rows) (asked : RecvAsk) (recv : Recv) : Type 0 where
  pub opens : (bound : Option ℕ) (image : List ℕ) (space : FreeSectors) → Receives bound (Has image space) recv [] Waits
  pub stands : StandsFor (reader_of recv) [] []
  pub ask : ask_of recv ≡ asked
  pub fits : RecvFits rows recv
  pub live : is_live (stage_of recv) ≡ true
  pub waiting : is_waiting recv ≡ true
  pub fed : fed_of recv ≡ 0

-- Whatever the image, over the sectors that were free as a piece was fed, with which this text was: E25 tells a damage of the set that the piece began with, as
-- the disk read then; and the set of a partial state that goes on was made of that one.
pub record TracesSet (old : DiskState) (free : FreeSectors) (rows : Rows) (ask : RecvAsk) (text : List ℕ) (before : stages.Stage) (failed : Bool) (new : List ℕ) (left : FreeSectors) (after : stages.Stage)
    (result : Result coded.FeedReport RecvFault) : Type 0 where
  pub damaged : failed ≡ false → (sector : ℕ) (stated found : List ℕ) → result ≡ Err (faults.Pool (pools.Damaged sector stated found)) → IsDamagedFeed old free rows ask text before sector stated found
  pub makes : goes_on result ≡ true → MakesStage rows ask text old.seen free old.size before new left after

-- What is kept of the pool: as long as BEGIN isn't covered nothing is committed; and after a refusal that keeps no records before it all of it stays, but for a
-- partial state under way that isn't kept.
pub record LeavesKept (waiting failed held : Bool) (target : List ℕ) (old new : PoolState) (result : Result coded.FeedReport RecvFault) : Type 0 where
  pub waits : waiting ≡ true → new ≡ old
  pub refused : failed ≡ false → IfErr result (λ fault. keeps_before fault ≡ false → new ≡ kept_without held target old)

-- a receive was fed this piece, over a pool that then has these rows
pub record LeavesReceive (rows : Rows) (piece : List ℕ) (old new : Recv) (result : Result coded.FeedReport RecvFault) : Type 0 where
  pub ask : ask_of new ≡ ask_of old
  pub live : is_live (stage_of new) ≡ goes_on result
  pub fits : RecvFits rows new
  -- all of a piece that doesn't end the stream was taken, and a stream has no more bytes than it may have
  pub fed : goes_on result ≡ true → fed_of new ≡ fed_of old + length piece
  pub within : fed_of new ≤ stream_limit
  -- with END there is the snapshot
  pub received : IfOk result (λ told. told.done ≡ true → IsSome (received_by new))
  -- of the target that was asked for
  pub of_target : IfOk result (λ told. told.done ≡ true → IfSome (received_by new) (λ made. made.target ≡ (ask_of old).target))
  -- it never waits for BEGIN again
  pub waited : is_waiting new ≡ true → is_waiting old ≡ true
