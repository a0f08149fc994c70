use Rattle.std.proofs.Common.{◌≡◌, take, arith}
use Rattle.std.proofs.lemmas.List.{take_all}
use Rattle.zst_bytes.specs.Words.{words_bytes}
use Rattle.zst_bytes.proofs.words.push_words.Goals as goal

pub returns : goal.returns
unfolding words_bytes
returns c = let all : take c.loop-number.number-index c.args.numbers.now ≡ c.args.numbers.now = take_all c.loop-number.number-index c.args.numbers.now (omega arith) in rw all at c.loop-number.invariant
