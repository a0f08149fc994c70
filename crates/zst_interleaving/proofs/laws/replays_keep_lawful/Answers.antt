use Rattle.zst_interleaving.proofs.LawfulMoves.{moves_lawful, opened_lawful, replays_lawful}
use Rattle.zst_interleaving.proofs.laws.replays_keep_lawful.Goals as goal

pub returns : goal.returns
returns c =
    let moves = moves_lawful c.steps_keep_pools.ensures.pools c.feeds_keep_lawful.ensures c.sent_are_bytes.ensures.sent c.sent_are_bytes.ensures.rest in
    record { opened = opened_lawful; moves = moves; replays = replays_lawful c.moves_keep_worlds.ensures moves }
