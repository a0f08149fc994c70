use Rattle.std.proofs.Common.{rules}
use Rattle.std.proofs.lemmas.Result.{on_ok_weaker}
use Rattle.zst_outside.specs.declared.mem_disk.MemDisk.{MemDisk}
use Rattle.zst_outside.proofs.CallLogLemmas.{disk_time, disk_syncs, disk_synced}
use Rattle.zst_outside.proofs.mem_disk.MemDiskDisk.sync.Goals as goal

pub returns-clause-reads : goal.returns-clause-reads
returns-clause-reads c =
    let noted = c.in_ok-note.ensures in
    let new : MemDisk = record { bytes = c.note.new.self.bytes; log = c.note.new.self.log; plan = c.end.new.self } in
    disk_syncs c.args.self.now new _ _ noted.log noted.bytes

pub returns-clause-time : goal.returns-clause-time
returns-clause-time c =
    let noted = c.in_ok-note.ensures in
    let new : MemDisk = record { bytes = c.note.new.self.bytes; log = c.note.new.self.log; plan = c.end.new.self } in
    disk_time c.args.self.now new _ noted.log noted.bytes

pub returns-clause-durable : goal.returns-clause-durable
returns-clause-durable c =
    let noted = c.in_ok-note.ensures in
    let new : MemDisk = record { bytes = c.note.new.self.bytes; log = c.note.new.self.log; plan = c.end.new.self } in
    on_ok_weaker c.end.result (λ good. disk_synced c.args.self.now new _ _ noted.log noted.bytes (search rules)) c.end.ensures.ok
