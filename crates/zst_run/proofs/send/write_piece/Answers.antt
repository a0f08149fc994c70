use Rattle.std.proofs.Common.{arith}
use Rattle.zst_run.proofs.SendLemmas.{piece_too_long}
use Rattle.zst_run.proofs.send.write_piece.Goals as goal

pub returns-then-piece-count : goal.returns-then-piece-count
returns-then-piece-count g c =
    piece_too_long c.args.piece.now c.args.is_last c.args.count.now c.args.count.now _ _ _ (let more = c.if-piece-count.true in let within = c.requires in omega arith) c.hand_on.ensures
