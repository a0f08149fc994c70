use Rattle.std.proofs.Common.{◌≡◌, ◌≤◌, ◌-◌, ℕ, List, [], length}
use Rattle.zst_outside.specs.States.{Gave}
use Rattle.zst_dir.specs.Rows.{Rows}
use Rattle.zst_block.specs.Blocks.{KeepsBlocks}
use Rattle.zst_block.specs.IoStates.{io_of}
use Rattle.zst_image.specs.Bodies.{free_by}
use Rattle.zst_reader.specs.InputReads.{stream_limit}
use Rattle.zst_recv.specs.Stages.{ask_of, fed_of, stage_of}
use Rattle.zst_run.specs.LaterDisks.{IsLater}
use Rattle.zst_run.specs.Receives.{piece_size}
use Rattle.zst_run.specs.ReceiveTurns.{CanFeed, Feeding, PlansOn, Traced}
use Rattle.zst_run.proofs.receive.feed_all.Given as goal

-- whole pieces were fed, and the receive waits for more
abbrev pub invariant-pieces : goal.invariant-pieces
invariant-pieces g l =
    let disk = g.D.Disk in
    let source = g.S.Source in
    record {
      feeding : Feeding (disk.state l.fn.pool.io.disk.now) (disk.state l.pool.io.disk.now) l.fn.pool.kept l.pool.kept l.fn.recv l.recv l.items (source.state l.fn.input) (source.state l.input);
      plans : (rows : Rows) (text : List ℕ) → Gave (source.state l.fn.input) (source.state l.input) text → PlansOn rows l.fn.pool.kept l.fn.recv [] → PlansOn rows l.pool.kept l.recv text;
      blocks : KeepsBlocks (disk.state l.fn.pool.io.disk.now).seen (free_by l.fn.pool.kept.body) (disk.state l.pool.io.disk.now).seen (free_by l.pool.kept.body);
      size : (disk.state l.pool.io.disk.now).size ≡ (disk.state l.fn.pool.io.disk.now).size;
      traced : (text : List ℕ) → Gave (source.state l.fn.input) (source.state l.input) text → (disk.state l.pool.io.disk.now).honest
          → Traced (disk.state l.fn.pool.io.disk.now) l.fn.pool.kept (ask_of l.fn.recv) text (disk.state l.pool.io.disk.now).seen l.pool.kept (stage_of l.recv);
      can_feed : CanFeed l.pool l.recv;
      room : length l.room ≡ piece_size;
      ask : ask_of l.recv ≡ ask_of l.fn.recv;
      later : IsLater (io_of l.fn.pool.io) (io_of l.pool.io);
      counts : l.pool.io.checksum_errors ≡ l.fn.pool.io.checksum_errors;
      input_later : (source.state l.fn.input).faults ≤ (source.state l.input).faults;
    }

-- each piece has bytes, and a stream has no more than it may have
abbrev pub decreases-pieces : goal.decreases-pieces
decreases-pieces g l = stream_limit - fed_of l.recv
