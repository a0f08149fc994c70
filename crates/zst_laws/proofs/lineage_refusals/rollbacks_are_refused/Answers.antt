use Rattle.zst_laws.proofs.pools.Holders.{mark_named, newer_named}
use Rattle.zst_laws.proofs.lineage_refusals.rollbacks_are_refused.Goals as goal

pub returns : goal.returns
returns c = record { bookmark = mark_named; snapshot = newer_named }
