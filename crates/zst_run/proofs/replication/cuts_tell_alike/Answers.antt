use Rattle.zst_run.proofs.AlikeTokens.{cuts_tell}
use Rattle.zst_run.proofs.replication.cuts_tell_alike.Goals as goal

pub returns : goal.returns
returns g c = λ here now there later. cuts_tell c.images_keep_partials.ensures c.left_is_kept.ensures c.equal_pieces_tell_alike.ensures _ _ _ _
