use Rattle.zst_laws.proofs.pools.LineageRefusals.{clone_absent, clone_there, clone_begun, clones_full, clone_number}
use Rattle.zst_laws.proofs.lineage_refusals.clones_are_refused.Goals as goal

pub returns : goal.returns
returns c = record { absent = clone_absent; there = clone_there; begun = clone_begun; full = clones_full; number = clone_number }
