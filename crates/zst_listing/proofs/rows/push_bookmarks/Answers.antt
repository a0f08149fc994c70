use Rattle.std.proofs.Common.{◌≡◌, take, arith}
use Rattle.std.proofs.lemmas.List.{take_all}
use Rattle.zst_listing.proofs.rows.push_bookmarks.Goals as goal

pub returns : goal.returns
returns c = let all : take c.loop-row.row-index c.args.rows.now ≡ c.args.rows.now = take_all c.loop-row.row-index c.args.rows.now (omega arith) in rw all at c.loop-row.invariant
