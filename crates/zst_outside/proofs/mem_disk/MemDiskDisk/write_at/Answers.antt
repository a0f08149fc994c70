use Rattle.std.proofs.Common.{ap, ◌∙◌, ◌++◌, ◌∷◌, [], cond, inl, length, List, ℕ, Bool}
use Rattle.std.proofs.lemmas.Result.{on_ok_weaker}
use Rattle.zst_outside.specs.Ranges.{bytes_at, overwritten}
use Rattle.zst_outside.specs.declared.call_log.Call.TheVariants.{Write}
use Rattle.zst_outside.specs.declared.mem_disk.MemDisk.{MemDisk}
use Rattle.zst_outside.specs.Ranges.{bytes_at-overwritten}
use Rattle.zst_outside.proofs.CallLogLemmas.{disk_writes, write_time, written_alike}
use Rattle.zst_outside.proofs.mem_disk.MemDiskDisk.write_at.Goals as goal

pub returns-clause-written : goal.returns-clause-written
returns-clause-written c =
    let bytes = c.args.self.now.bytes.items in
    let place = c.args.place in
    let from = c.args.from.now in
    on_ok_weaker c.end.result
    (λ good. ap (λ (l : List ℕ). bytes_at l place (length from)) (c.in_ok-note_write.ensures.bytes ∙ ap (λ (fails : Bool). cond fails bytes (overwritten bytes place from)) good.0) ∙ bytes_at-overwritten bytes place from c.requires)
    c.end.ensures.ok

pub returns-clause-writes : goal.returns-clause-writes
returns-clause-writes c =
    let old = c.args.self.now in
    let noted = c.in_ok-note_write.ensures in
    let new : MemDisk = record { bytes = c.note_write.new.self.bytes; log = c.note_write.new.self.log; plan = c.end.new.self } in
    let alike = written_alike c.args.place c.args.from.now old.bytes.items new.bytes.items c.begin-fails.result c.requires noted.bytes in
    disk_writes old new _ c.args.place (length c.args.from.now) noted.log.0 c.requires alike noted.log.1 noted.log.2

pub returns-clause-time : goal.returns-clause-time
returns-clause-time c =
    let old = c.args.self.now in
    let noted = c.in_ok-note_write.ensures in
    let new : MemDisk = record { bytes = c.note_write.new.self.bytes; log = c.note_write.new.self.log; plan = c.end.new.self } in
    let alike = written_alike c.args.place c.args.from.now old.bytes.items new.bytes.items c.begin-fails.result c.requires noted.bytes in
    write_time old new _ c.args.place (length c.args.from.now) noted.log.0 c.requires alike noted.log.1 noted.log.2

pub returns-clause-logged : goal.returns-clause-logged
returns-clause-logged c =
    let noted = c.in_ok-note_write.ensures in
    inl (record {
      before = noted.log.0;
      stood = noted.log.1;
      logged = noted.log.2 ∙ ap (λ (number : ℕ). c.args.self.now.log.items ++ record { number = number; call = Write c.args.place noted.log.0 } ∷ []) c.calls-number.ensures;
    })
