use Rattle.zst_objset.proofs.AnswerLaws.{disk_fault}
use Rattle.zst_objset.proofs.answers.object_there.Goals as goal

pub returns-in-Err-clause-found : goal.returns-in-Err-clause-found
returns-in-Err-clause-found g c = λ snap honest holds. disk_fault c.in-Err.fault (c.in-Err.ensures.found snap honest holds) c.in-Err.ensures.looks.looks.never_full

pub returns-in-Ok-Some-clause-tight : goal.returns-in-Ok-Some-clause-tight
returns-in-Ok-Some-clause-tight g c = λ snap honest tight. rw c.in-Ok-Some.field-0-is at (c.in-Ok-Some.ensures.tight snap honest tight)

pub dnode_at-requires : goal.dnode_at-requires
dnode_at-requires g c = record { object = c.requires.object }

pub returns-in-Ok-Some-clause-looks : goal.returns-in-Ok-Some-clause-looks
returns-in-Ok-Some-clause-looks g c = c.in-Ok-Some.ensures.looks

pub returns-in-Ok-None-clause-looks : goal.returns-in-Ok-None-clause-looks
returns-in-Ok-None-clause-looks g c = c.in-Ok-None.ensures.looks

pub returns-in-Err-clause-looks : goal.returns-in-Err-clause-looks
returns-in-Err-clause-looks g c = c.in-Err.ensures.looks

pub returns-in-Ok-Some-clause-limits : goal.returns-in-Ok-Some-clause-limits
returns-in-Ok-Some-clause-limits g c = tt

pub returns-in-Ok-Some-clause-unredacted : goal.returns-in-Ok-Some-clause-unredacted
returns-in-Ok-Some-clause-unredacted g c = tt

pub returns-in-Ok-Some-clause-damaged : goal.returns-in-Ok-Some-clause-damaged
returns-in-Ok-Some-clause-damaged g c = λ honest. tt

pub returns-in-Ok-None-clause-tight : goal.returns-in-Ok-None-clause-tight
returns-in-Ok-None-clause-tight g c = λ state honest tight. tt

pub returns-in-Ok-None-clause-ranges : goal.returns-in-Ok-None-clause-ranges
returns-in-Ok-None-clause-ranges g c = tt

pub returns-in-Ok-None-clause-limits : goal.returns-in-Ok-None-clause-limits
returns-in-Ok-None-clause-limits g c = tt

pub returns-in-Ok-None-clause-unredacted : goal.returns-in-Ok-None-clause-unredacted
returns-in-Ok-None-clause-unredacted g c = tt

pub returns-in-Ok-None-clause-bound : goal.returns-in-Ok-None-clause-bound
returns-in-Ok-None-clause-bound g c = tt

pub returns-in-Ok-None-clause-stands : goal.returns-in-Ok-None-clause-stands
returns-in-Ok-None-clause-stands g c = λ honest. tt

pub returns-in-Ok-None-clause-damaged : goal.returns-in-Ok-None-clause-damaged
returns-in-Ok-None-clause-damaged g c = λ honest. tt

pub returns-in-Err-clause-tight : goal.returns-in-Err-clause-tight
returns-in-Err-clause-tight g c = λ state honest tight. tt

pub returns-in-Err-clause-ranges : goal.returns-in-Err-clause-ranges
returns-in-Err-clause-ranges g c = tt

pub returns-in-Err-clause-limits : goal.returns-in-Err-clause-limits
returns-in-Err-clause-limits g c = tt

pub returns-in-Err-clause-unredacted : goal.returns-in-Err-clause-unredacted
returns-in-Err-clause-unredacted g c = tt

pub returns-in-Err-clause-bound : goal.returns-in-Err-clause-bound
returns-in-Err-clause-bound g c = tt

pub returns-in-Err-clause-stands : goal.returns-in-Err-clause-stands
returns-in-Err-clause-stands g c = λ honest. tt

pub returns-in-Ok-Some-clause-ranges : goal.returns-in-Ok-Some-clause-ranges
returns-in-Ok-Some-clause-ranges g c = rw c.in-Ok-Some.field-0-is at c.in-Ok-Some.ensures.ranges

pub returns-in-Ok-Some-clause-bound : goal.returns-in-Ok-Some-clause-bound
returns-in-Ok-Some-clause-bound g c = rw c.in-Ok-Some.field-0-is at c.in-Ok-Some.ensures.bound

pub returns-in-Ok-Some-clause-stands : goal.returns-in-Ok-Some-clause-stands
returns-in-Ok-Some-clause-stands g c = rw c.in-Ok-Some.field-0-is at c.in-Ok-Some.ensures.stands

pub returns-in-Err-clause-damaged : goal.returns-in-Err-clause-damaged
returns-in-Err-clause-damaged g c = c.in-Err.ensures.damaged
