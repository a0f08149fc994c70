use Rattle.std.proofs.Common.{◌≡◌, ◌/◌, length, arith}
use Rattle.std.proofs.lemmas.Result.{IfOk-weaker}
use Rattle.zst_leaves.proofs.LeavesLaws.{leaf_written}
use Rattle.zst_leaves.proofs.WrittenBlocks.{WritesBlocks-one}
use Rattle.zst_leaves.proofs.writes.write_leaf.Goals as goal

pub returns-clause-leaf : goal.returns-clause-leaf
returns-clause-leaf g c = leaf_written c.args.number _ _ c.args.bytes.now c.put_bytes.new.bytes c.write.result (omega arith) c.put_bytes.ensures c.write.ensures.block

pub returns-clause-takes : goal.returns-clause-takes
returns-clause-takes g c = IfOk-weaker c.write.result _ _ (λ ptr takes. omega (arith, takes.room_is)) c.write.ensures.block.takes

pub returns-clause-written : goal.returns-clause-written
returns-clause-written g c =
    let block = c.write.ensures.block in
    let sectors : length c.put_bytes.new.bytes / 512 ≡ 16 = omega arith in
    WritesBlocks-one c.write.result (rw sectors at block.works) (rw sectors at block.taken) block.never_damaged block.calls
