use Rattle.zst_block.proofs.cache.Cache.give.Goals as goal

pub returns-clause-missed : goal.returns-clause-missed
returns-clause-missed c = λ no.
    let same = rw c.in-Some.is at c.self.view_is in
    rw (← same) (c.give_from.ensures.missed no)
