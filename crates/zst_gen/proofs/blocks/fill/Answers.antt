use Rattle.std.proofs.Common.{arith, sym, ◌∙◌}
use Rattle.zst_gen.proofs.BlockWords.{all_written, word_written, words-none}
use Rattle.zst_gen.proofs.blocks.fill.Goals as goal

pub loop-place-init : goal.loop-place-init
loop-place-init c = sym (words-none c.args.object c.args.index)

pub loop-place-preserved : goal.loop-place-preserved
loop-place-preserved c =
    word_written c.args.object c.args.index c.loop-place.place c.word.result c.loop-place.bytes c.put32.new.bytes (c.loop-place.auto.bytes ∙ c.requires.whole) (omega arith) c.loop-place.invariant c.word.ensures c.put32.ensures

pub returns : goal.returns
returns c = all_written c.args.object c.args.index c.loop-place.place c.loop-place.bytes (c.loop-place.auto.bytes ∙ c.requires.whole) (omega arith) c.loop-place.invariant
