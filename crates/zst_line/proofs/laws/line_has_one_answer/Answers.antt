use Rattle.zst_line.proofs.OneAnswer.{one_answer}
use Rattle.zst_line.proofs.laws.line_has_one_answer.Goals as goal

pub returns : goal.returns
returns c = one_answer
