use Rattle.std.proofs.Common.{[], refl}
use Rattle.zst_fletcher.proofs.word_sums.sum_word_by_word.Goals as goal

pub returns : goal.returns
returns c = c.add_words.ensures [] refl c.zero-sum.ensures
