use Rattle.zst_interleaving.proofs.LawfulRuns.{lawful_complete, lawful_progress, runs_find}
use Rattle.zst_interleaving.proofs.laws.every_lawful_feed_is_progress.Goals as goal

pub returns : goal.returns
returns c =
    let find = runs_find c.moves_keep_worlds.ensures c.replays_keep_lawful.ensures.moves in
    record { find = find; progress = lawful_progress find c.every_feed_is_progress.ensures.progress; complete = lawful_complete find c.every_feed_is_progress.ensures.complete }
