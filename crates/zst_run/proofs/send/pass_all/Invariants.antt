use Rattle.std.proofs.Common.{◌≡◌, ◌≤◌, ◌-◌, ℕ, List, Option}
use Rattle.std.specs.Prelude.{Contains}
use Rattle.zst_outside.specs.Images.{OnlyReads}
use Rattle.zst_block.specs.IoStates.{IsHonest, blocks_of, disk_of, io_of}
use Rattle.zst_model.specs.declared.sends.header.Point.{Point}
use Rattle.zst_model.specs.sends.Headers.{Sent}
use Rattle.zst_reader.specs.InputReads.{stream_limit}
use Rattle.zst_send.specs.KnownPointers.{IsAmong, Knows}
use Rattle.zst_send.specs.Sends.{sent_set}
use Rattle.zst_run.specs.LaterDisks.{IsLater}
use Rattle.zst_run.specs.SendPieces.{GivesPieces, Sending}
use Rattle.zst_run.proofs.send.pass_all.Given as goal

-- what was given so far is written and counted
abbrev pub invariant-pieces : goal.invariant-pieces
invariant-pieces g l =
    let sink = g.K.Sink in
    record {
      sending : (start : Option Point) (sent : Sent) → IsHonest l.pool.io → Sending (blocks_of l.fn.pool.io) start sent l.fn.send (sink.state l.fn.out) (sink.state l.fn.out) 0
          → Sending (blocks_of l.pool.io) start sent l.send (sink.state l.fn.out) (sink.state l.out) l.count;
      set : sent_set l.send ≡ sent_set l.fn.send;
      knows : (images : List (List ℕ)) → IsHonest l.pool.io → Contains images (disk_of l.fn.pool.io).seen → Knows (IsAmong images) l.fn.send
          → Knows (IsAmong images) l.send;
      gives : GivesPieces l.pool l.send l.room;
      within : l.count ≤ stream_limit;
      reads : OnlyReads (disk_of l.fn.pool.io) (disk_of l.pool.io);
      later : IsLater (io_of l.fn.pool.io) (io_of l.pool.io);
      counts : l.pool.io.checksum_errors ≡ l.fn.pool.io.checksum_errors;
      out_later : (sink.state l.fn.out).faults ≤ (sink.state l.out).faults;
    }

-- each piece has bytes, and so many more at most may be given
abbrev pub decreases-pieces : goal.decreases-pieces
decreases-pieces g l = stream_limit - l.count
