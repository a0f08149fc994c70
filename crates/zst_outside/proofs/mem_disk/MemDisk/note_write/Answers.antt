use Rattle.std.proofs.Common.{◌≡◌, length, arith}
use Rattle.std.proofs.lemmas.Grind.{common_steps}
use Rattle.zst_outside.specs.Ranges.{bytes_at}
use Rattle.zst_outside.proofs.mem_disk.MemDisk.note_write.Goals as goal

pub returns-then-not-fails-clause-log : goal.returns-then-not-fails-clause-log
unfolding bytes_at
returns-then-not-fails-clause-log c =
    let before = c.in-Ok.before in
    let is : before.items ≡ bytes_at c.args.self.now.bytes.items c.args.place (length c.args.from.now) = grind (arith, common_steps) in
    (before, is, c.in_ok-note-in-Ok.ensures.log)

pub returns-else-not-fails-clause-log : goal.returns-else-not-fails-clause-log
unfolding bytes_at
returns-else-not-fails-clause-log c =
    let before = c.in-Ok.before in
    let is : before.items ≡ bytes_at c.args.self.now.bytes.items c.args.place (length c.args.from.now) = grind (arith, common_steps) in
    (before, is, c.in_ok-note-in-Ok.ensures.log)
