-- What the pieces of an input cover is what a receive has applied of them.
use Rattle.std.proofs.Common.{subst}
use Rattle.std.specs.List.{concat}
use Rattle.zst_laws.specs.ReceivedRecords.{ReceivedIsApplied}
use Rattle.zst_stream.specs.Laws.{FrontsAgree}
use Rattle.zst_stream.specs.Reading.{reading}
use Rattle.zst_recv.specs.ReceiveSteps.{Fed}
use Rattle.zst_replication.specs.Resumption.{PiecesAreApplied}
use Rattle.zst_replication.proofs.EndedReceives.{headed}
use Rattle.zst_replication.proofs.FeedSequences.{Way, receives_way}
use Rattle.zst_replication.proofs.StoppedReceives.{living_partial}

pub pieces_applied : FrontsAgree → ReceivedIsApplied → PiecesAreApplied
pieces_applied fronts law ask pool now flags partial pieces e =
    let way = subst (λ (f : Fed). Way law ask pool (reading (concat pieces)).covered f) e (receives_way law ask pool fronts pieces) in
    (way.1, headed ask pool (reading (concat pieces)).covered flags partial way.1, λ kept. (living_partial ask pool now partial way.0.asked way.0.runs kept).there)
