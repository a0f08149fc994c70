use Rattle.zst_redact.proofs.lists.build.Goals as goal

pub returns-clause-list : goal.returns-clause-list
returns-clause-list g c = c.counted.ensures.list

pub returns-clause-short : goal.returns-clause-short
returns-clause-short g c = c.counted.ensures.short

pub returns-clause-damaged : goal.returns-clause-damaged
returns-clause-damaged g c = c.counted.ensures.damaged

pub returns-clause-looks : goal.returns-clause-looks
returns-clause-looks g c = c.counted.ensures.looks
