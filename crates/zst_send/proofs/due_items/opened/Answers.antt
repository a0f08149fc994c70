use Rattle.std.proofs.Common.{arith, ◌≡◌}
use Rattle.zst_send.proofs.Sizes.{spill_named, tail_most}
use Rattle.zst_send.proofs.due_items.opened.Goals as goal

pub overflow_mul-tail : goal.overflow_mul-tail
overflow_mul-tail c =
    let most = tail_most c.args.dnode.now c.requires in
    let same : c.from.result ≡ c.args.dnode.now.block_size = c.from.ensures in
    rw same (omega (arith, most))

pub returns-else-dnode-eq0-clause-fits : goal.returns-else-dnode-eq0-clause-fits
returns-else-dnode-eq0-clause-fits c = spill_named c.args.dnode.now.spill c.requires.spill c.if-dnode-eq0.false
