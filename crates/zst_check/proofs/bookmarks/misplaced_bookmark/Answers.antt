use Rattle.std.proofs.Common.{below_more, get_or, length, refl, sym, ap, ◌∙◌, arith}
use Rattle.std.proofs.lemmas.Bool.{true≢false}
use Rattle.zst_dir.specs.RowNames.{NamesBookmark}
use Rattle.zst_dir.proofs.Matches.{length-Match}
use Rattle.zst_model.specs.pools.Soundness.{IsBookmarkOf}
use Rattle.zst_check.specs.ReportNames.{WithDataset}
use Rattle.zst_check.proofs.PlacedBookmarks.{placed_at, bad_found}
use Rattle.zst_check.proofs.ReportNames.{listed_at}
use Rattle.zst_check.proofs.bookmarks.misplaced_bookmark.Goals as goal

pub returns-then-not-is_placed : goal.returns-then-not-is_placed
returns-then-not-is_placed c = record {
  found = λ pool are same.
      rw c.told.ensures
      (bad_found c.args.dir.now pool are c.bookmarks-row-items.result.now c.bookmarks-row-items.ensures c.loop-row.row-index c.row-item.result c.loop-row-test.true c.row-item.is
      (λ mark names is. true≢false (sym ((c.is_placed.ensures pool mark are same names).1 is) ∙ c.if-not-is_placed.true)));
  named =
      let listed = listed_at c.args.dir.now.bookmarks c.bookmarks-row-items.result.now c.loop-row.row-index c.row-item.result c.bookmarks-row-items.ensures c.loop-row-test.true c.row-item.is in
      rw c.told.ensures (WithDataset c.row-item.result listed refl refl);
}

pub loop-row-preserved : goal.loop-row-preserved
loop-row-preserved c = λ pool are same k d less.
    below_more (λ i. IsBookmarkOf pool (get_or pool.bookmarks i d)) c.loop-row.row-index (λ i below. c.loop-row.invariant pool are same i d below)
    (placed_at c.args.dir.now pool are c.bookmarks-row-items.result.now c.bookmarks-row-items.ensures c.loop-row.row-index c.row-item.result c.loop-row-test.true c.row-item.is
    (λ mark names. (c.is_placed.ensures pool mark are same names).0 c.if-not-is_placed.false) d)
    k less

pub returns : goal.returns
returns c = record {
  found = λ pool are same k d inside.
      c.loop-row.invariant pool are same k d
      (omega (arith, inside, c.loop-row-test.false, ap length c.bookmarks-row-items.ensures, length-Match NamesBookmark c.args.dir.now.bookmarks pool.bookmarks are.bookmarks));
  named = tt;
}
