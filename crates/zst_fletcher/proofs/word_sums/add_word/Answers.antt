use Rattle.std.proofs.Common.{sym}
use Rattle.zst_fletcher.proofs.LastWord.{sums_of-push}
use Rattle.zst_fletcher.proofs.word_sums.add_word.Goals as goal

pub returns : goal.returns
returns c = λ before is. sym (sums_of-push before c.args.word c.args.sum is)
