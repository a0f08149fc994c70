use Rattle.std.proofs.Common.{List, subst, sym}
use Rattle.zst_names.specs.Names.{dataset_of}
use Rattle.zst_dir.specs.declared.rows.Bookmark.{Bookmark}
use Rattle.zst_dir.specs.declared.rows.Dataset.{Dataset}
use Rattle.zst_dir.specs.declared.rows.Partial.{Partial}
use Rattle.zst_listing.proofs.BookmarkOrder.{bookmarks-in_order}
use Rattle.zst_listing.proofs.RangeLaws.{InOrder, rising-in_order}
use Rattle.zst_listing.proofs.rows.push_name.Goals as goal

pub datasets_of-requires : goal.datasets_of-requires
datasets_of-requires c =
    subst (λ (rows : List Dataset). InOrder (λ row. row.name) rows) (sym c.datasets.ensures.same)
    (rising-in_order (λ (row : Dataset). row.name) c.args.dir.now.datasets c.datasets.ensures.lawful.ordered.datasets)

pub bookmarks_of-requires : goal.bookmarks_of-requires
bookmarks_of-requires c =
    subst (λ (rows : List Bookmark). InOrder (λ row. dataset_of 35 row.name) rows) (sym c.bookmarks.ensures)
    (bookmarks-in_order c.args.dir.now.bookmarks c.datasets.ensures.lawful.bookmarks c.datasets.ensures.lawful.ordered.bookmarks)

pub partials_of-requires : goal.partials_of-requires
partials_of-requires c =
    subst (λ (rows : List Partial). InOrder (λ row. row.target) rows) (sym c.partials.ensures)
    (rising-in_order (λ (row : Partial). row.target) c.args.dir.now.partials c.datasets.ensures.lawful.ordered.partials)
