use Rattle.std.proofs.Common.{drop}
use Rattle.zst_listing.proofs.PartialWalk.{Walked}
use Rattle.zst_listing.proofs.rows.list_rows.Given as goal

abbrev pub invariant-loop-partial : goal.invariant-loop-partial
invariant-loop-partial l = Walked l.dir (drop l.partial-index l.partials) l.datasets l.lines.items
