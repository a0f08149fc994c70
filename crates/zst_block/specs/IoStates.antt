-- What an Io is to those who use it, and what its disk and its free sectors say together.
use Rattle.std.specs.Prelude.{ℕ, Bool, List}
use Rattle.zst_outside.specs.Images.{DiskState}
use Rattle.zst_outside.specs.declared.disk.Disk.{Ghosts}
use Rattle.zst_space.specs.FreeSectors.{FreeSectors}
use Rattle.zst_block.specs.Blocks.{Has, SparesTaken}
use Rattle.zst_block.specs.declared.io.Io.{Io}
use Rattle.zst_block.specs.declared.ptr.Ptr.{Ptr}

pub record IoState : Type 1 where
  -- the disk
  pub disk : DiskState
  -- the sectors into which blocks may be written
  pub space : FreeSectors
  -- whether the disk has failed
  pub failed : Bool
  -- how many blocks were found damaged
  pub checksum_errors : ℕ
  -- the name by which the borrow checker knows the disk's reference again
  pub reference : ℕ

module _ {D : Type 0} {g : Ghosts D} where
  -- the disk of an Io
  abbrev pub disk_of : Io D g → DiskState
  disk_of io = g.state io.disk.now

  -- no read of it so far gave other bytes
  abbrev pub IsHonest : Io D g → Type 0
  IsHonest io = (disk_of io).honest

  -- the blocks that it has: its disk reads so, and they stand in sectors that aren't free
  abbrev pub blocks_of : Io D g → Ptr → List ℕ → Type 0
  blocks_of io = Has (disk_of io).seen io.space

  -- an image that is as its disk reads, but for free sectors
  abbrev pub IsSparedBy : Io D g → List ℕ → Type 0
  IsSparedBy io = SparesTaken io.space (disk_of io).seen

  -- what a call may change of its disk and its space, whatever it reads into its node
  abbrev pub io_of : Io D g → IoState
  io_of io = record { disk = disk_of io; space = io.space; failed = io.failed; checksum_errors = io.checksum_errors; reference = io.disk.ghost_name }
