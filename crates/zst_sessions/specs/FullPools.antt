-- E24 of a command: what it tells of the free sectors of a pool, whatever the image is.
use Rattle.std.specs.Prelude.{◌≡◌, ◌≢◌, ◌≤◌, ℕ, true, List}
use Rattle.zst_space.specs.FreeSectors.{FreeSectors}
use Rattle.zst_record.specs.Heads.{Covered}
use Rattle.zst_reader.specs.StandsFor.{HandsOut}
use Rattle.zst_stream.specs.Reading.{waiting}
use Rattle.zst_image.specs.declared.pool_state.PoolState.{PoolState}
use Rattle.zst_model.specs.declared.pools.command.Command.{Command}
use Rattle.zst_model.specs.declared.pools.command.Command.TheVariants as commands
use Rattle.zst_model.specs.pools.Step.{commits}
use Rattle.zst_pool.specs.Cost.{HasNoRoom, cost_of}
use Rattle.zst_pool.specs.Reclaims.{FindsAllReached}
use Rattle.zst_recv.specs.Stages.{reader_of}
use Rattle.zst_recv.specs.declared.recv.Recv.{Recv}
use Rattle.zst_roots.specs.declared.held.HeldBlocks.{HeldBlocks}
use Rattle.zst_sessions.specs.Engines.{Kept}

-- E24 of a command that is no reclaim, in a pool of which this is kept: with data of so many sectors, no more than it may write whatever is there, it found no room; and so many are left
pub record CommandIsShort (command : Command) (kept : PoolState) (left : FreeSectors) (need largest : ℕ) : Type 0 where
  pub block : ℕ
  pub most : block ≤ (cost_of command).most
  pub short : HasNoRoom (cost_of command).cells block (cost_of command).most_list kept.body kept.dir left need largest

-- E24 of a command, which commits: a reclaim found no room in what nothing reached, nor these sends held, where no read gave other bytes; any other one in what the latest body leaves free
pub record StepIsShort (command : Command) (held : List HeldBlocks) (old new : Kept) (left : FreeSectors) (need largest : ℕ) : Type 0 where
  pub commits : commits command ≡ true
  pub runs : command ≢ commands.Reclaim → CommandIsShort command old.state left need largest
  pub reclaims : command ≡ commands.Reclaim → new.disk.honest → FindsAllReached old.disk.seen old.state held left need largest

-- a receive was fed this text, whatever the image is: its reader has handed out all that this covers
abbrev pub WasFed : Recv → List ℕ → Type 0
WasFed recv text = (handed : List Covered) × HandsOut (reader_of recv) text handed waiting
