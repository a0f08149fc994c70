use Rattle.std.proofs.Common.{rules, Some}
use Rattle.zst_plan.specs.Places.{StandsAt}
use Rattle.zst_plan.specs.Sources.{FoundBookmark}
use Rattle.zst_plan.proofs.LookupLemmas.{bookmark_row, rows_found}
use Rattle.zst_plan.proofs.lookups.bookmark_at.Goals as goal

pub returns : goal.returns
returns c = λ pool bookmark are found.
    let rows = c.args.dir.now in
    rows_found (StandsAt rows.bookmarks pool.bookmarks) FoundBookmark c.args.place c.map.result bookmark
    (λ place row other at is. bookmark_row rows pool are place row (Some other) (search rules) is) c.map.ensures.cases found
