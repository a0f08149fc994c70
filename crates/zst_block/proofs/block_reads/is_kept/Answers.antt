use Rattle.std.proofs.Common.{◌∙◌}
use Rattle.zst_block.proofs.Cached.{promoted-none}
use Rattle.zst_block.proofs.block_reads.is_kept.Goals as goal

pub returns-then-is_placed-clause-missed : goal.returns-then-is_placed-clause-missed
returns-then-is_placed-clause-missed c = λ no placed. c.give.ensures.missed no

pub returns-then-is_placed-clause-same : goal.returns-then-is_placed-clause-same
returns-then-is_placed-clause-same c = λ no. c.give.ensures.order ∙ promoted-none c.args.cache.now c.args.ptr.now.sector (c.give.ensures.missed no)
