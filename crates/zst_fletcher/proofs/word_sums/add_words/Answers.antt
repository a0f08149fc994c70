use Rattle.std.proofs.Common.{◌++◌, ◌*◌, take, arith, sym, ap, ◌∙◌}
use Rattle.zst_fletcher.specs.WeightSum.{sums_of, words}
use Rattle.zst_fletcher.proofs.Words.{words-more}
use Rattle.zst_fletcher.proofs.word_sums.add_words.Goals as goal

pub loop-i-preserved : goal.loop-i-preserved
loop-i-preserved c = λ before whole is.
    let added = c.add_word-sums.ensures (words (before ++ take (4 * c.loop-i.i) c.args.bytes.now)) (c.loop-i.invariant before whole is) in
    rw c.word_at.ensures at added ∙ ap sums_of (sym (words-more before c.args.bytes.now c.loop-i.i whole (omega arith)))
