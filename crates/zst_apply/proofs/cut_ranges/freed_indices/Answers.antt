use Rattle.std.proofs.Common.{◌∙◌, arith}
use Rattle.zst_model.specs.states.State.{index_bound}
use Rattle.zst_apply.proofs.ByteRanges.{end_covers, part_covers}
use Rattle.zst_apply.proofs.cut_ranges.freed_indices.Goals as goal

pub returns-then-length-eq18446744073709551615-clause-same : goal.returns-then-length-eq18446744073709551615-clause-same
unfolding index_bound
returns-then-length-eq18446744073709551615-clause-same c = λ i less.
    c.cut.ensures.same i (omega arith) less ∙ end_covers c.args.size c.args.offset c.args.length i c.requires.some c.requires.checked c.if-length-eq18446744073709551615.true less

pub returns-clause-same : goal.returns-clause-same
unfolding index_bound
returns-clause-same c = λ i less.
    c.cut-2.ensures.same i (omega arith) less ∙ part_covers c.args.size c.args.offset c.args.length i c.requires.some c.requires.checked c.if-length-eq18446744073709551615.false
