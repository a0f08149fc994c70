use Rattle.zst_block.proofs.cache.Cache.meets.Goals as goal

pub returns-in-Some : goal.returns-in-Some
returns-in-Some c =
    let same = rw c.in-Some.is at c.self.view_is in
    rw (← same) c.meets_in.ensures
