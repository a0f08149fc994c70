use Rattle.zst_compare.proofs.runs.counted.Goals as goal

pub returns-clause-looks : goal.returns-clause-looks
returns-clause-looks g c = c.get.ensures.looks.by_steps.looks
