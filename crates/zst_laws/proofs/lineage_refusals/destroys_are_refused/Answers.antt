use Rattle.zst_laws.proofs.pools.Holders.{nothing_there, partial_named, clone_named, destroy_number, bookmark_stays}
use Rattle.zst_laws.proofs.lineage_refusals.destroys_are_refused.Goals as goal

pub returns : goal.returns
returns c = record { absent = nothing_there; busy = partial_named; cloned = clone_named; number = destroy_number; bookmark = bookmark_stays }
