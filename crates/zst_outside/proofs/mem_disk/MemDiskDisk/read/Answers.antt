use Rattle.zst_outside.specs.declared.mem_disk.MemDisk.{MemDisk}
use Rattle.zst_outside.proofs.CallLogLemmas.{disk_reads, disk_time}
use Rattle.zst_outside.proofs.mem_disk.MemDiskDisk.read.Goals as goal

pub returns-clause-reads : goal.returns-clause-reads
returns-clause-reads c =
    let noted = c.in_ok-note.ensures in
    let new : MemDisk = record { bytes = c.note.new.self.bytes; log = c.note.new.self.log; plan = c.end.new.self } in
    disk_reads c.args.self.now new _ noted.log noted.bytes noted.bytes (λ image is. is)

pub returns-clause-time : goal.returns-clause-time
returns-clause-time c =
    let noted = c.in_ok-note.ensures in
    let new : MemDisk = record { bytes = c.note.new.self.bytes; log = c.note.new.self.log; plan = c.end.new.self } in
    disk_time c.args.self.now new _ noted.log noted.bytes
