use Rattle.std.proofs.Common.{rules, ap, List, arith, length}
use Rattle.zst_dir.specs.declared.rows.Bookmark.{Bookmark}
use Rattle.zst_pool.proofs.SnapshotRows.{bookmarks_are_few, bookmarks_are_many}
use Rattle.zst_pool.proofs.lineage.check_few_bookmarks.Goals as goal

pub returns-then-bookmarks-ge-MOST_BOOKMARKS : goal.returns-then-bookmarks-ge-MOST_BOOKMARKS
returns-then-bookmarks-ge-MOST_BOOKMARKS c = record {
  checks = record {
    rows = search rules;
    judged = λ pool are rest. bookmarks_are_many c.args.dir.now pool are rest (omega (arith, ap (λ (xs : List Bookmark). length xs) c.bookmarks.ensures, c.if-bookmarks-ge-MOST_BOOKMARKS.true));
  };
}

pub returns : goal.returns
returns c = record {
  checks = record {
    rows = search rules;
    judged = λ pool are rest. bookmarks_are_few c.args.dir.now pool are rest (omega (arith, ap (λ (xs : List Bookmark). length xs) c.bookmarks.ensures, c.if-bookmarks-ge-MOST_BOOKMARKS.false));
  };
}
