use Rattle.zst_laws.proofs.pools.LineageRefusals.{bookmark_absent, bookmark_elsewhere, bookmark_there, bookmarks_full, bookmark_number}
use Rattle.zst_laws.proofs.lineage_refusals.bookmarks_are_refused.Goals as goal

pub returns : goal.returns
returns c = record { absent = bookmark_absent; elsewhere = bookmark_elsewhere; there = bookmark_there; full = bookmarks_full; number = bookmark_number }
