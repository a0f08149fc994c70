use Rattle.zst_run.proofs.DumpAnswers.{one_answer}
use Rattle.zst_run.proofs.dump.dumps_have_one_answer.Goals as goal

pub returns : goal.returns
returns c = one_answer
