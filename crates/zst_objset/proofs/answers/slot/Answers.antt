use Rattle.zst_objset.proofs.AnswerLaws.{disk_fault}
use Rattle.zst_objset.proofs.answers.slot.Goals as goal

pub returns-in-Err-clause-found : goal.returns-in-Err-clause-found
returns-in-Err-clause-found g c = λ snap honest holds. disk_fault c.in-Err.fault (c.in-Err.ensures.found snap honest holds) c.in-Err.ensures.looks.looks.never_full
