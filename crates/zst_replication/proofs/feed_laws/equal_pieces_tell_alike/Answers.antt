use Rattle.zst_replication.proofs.AlikeReceives.{equal_pieces_tell}
use Rattle.zst_replication.proofs.feed_laws.equal_pieces_tell_alike.Goals as goal

pub returns : goal.returns
returns c =
    equal_pieces_tell c.fronts_agree.ensures c.received_is_state.ensures.applied c.pieces_are_kept.ensures.kept c.keeping_is_done.ensures c.cut_leaves_nothing.ensures
