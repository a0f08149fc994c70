use Rattle.zst_plan.proofs.RefusedStreams.{partial_there, partial_elsewhere, partial_absent}
use Rattle.zst_plan.proofs.laws.partials_are_refused.Goals as goal

pub returns : goal.returns
returns c = record { there = partial_there; elsewhere = partial_elsewhere; absent = partial_absent }
