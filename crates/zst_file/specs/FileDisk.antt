-- What a file shows.
use Rattle.std.specs.Prelude.{ℕ, List}
use Rattle.zst_file.specs.Event.{Event}
use Rattle.zst_file.specs.FileHistory.{file_state}
use Rattle.zst_outside.specs.Images.{DiskState}
use Rattle.zst_file.specs.declared.start.Start.{Ghosts}
use Rattle.zst_file.specs.declared.file_disk.FileDisk.{FileDisk}

-- the calls so far with their answers, the newest first
abbrev pub history_of : {S : Type 0} → {start : Ghosts S} → FileDisk S start → List Event
history_of it = it.host.log.events

-- how many bytes it had as it was opened
abbrev pub size_of : {S : Type 0} → {start : Ghosts S} → FileDisk S start → ℕ
size_of it = it.bytes

-- what it is as a disk, where it held what `start` says
abbrev pub state_of : {S : Type 0} → (start : Ghosts S) → FileDisk S start → DiskState
state_of start it = file_state start.held start.left it.bytes it.calls it.faults it.host.log.events
