use Rattle.std.proofs.Common.{length, ap, arith}
use Rattle.zst_leaves.proofs.TextParts.{length-part, part_ends}
use Rattle.zst_leaves.proofs.sizes.part_of.Goals as goal

pub returns-clause-part : goal.returns-clause-part
returns-clause-part c =
    let same = part_ends c.room_of-size.result c.args.bytes.now c.args.k c.min-start.result c.min-end.result (omega arith) (omega arith) in
    rw c.room_of-size.ensures.value at same

pub returns-clause-room : goal.returns-clause-room
returns-clause-room c =
    let same = part_ends c.room_of-size.result c.args.bytes.now c.args.k c.min-start.result c.min-end.result (omega arith) (omega arith) in
    omega (arith, ap length same, length-part c.room_of-size.result c.args.bytes.now c.args.k)
