use Rattle.std.proofs.Common.{rules, arith, refl}
use Rattle.zst_dir.specs.Rows.{IsBookmarkRow}
use Rattle.zst_dir.specs.Spelling.{bookmark_bytes}
use Rattle.zst_dir.proofs.Loops.{reading_first, reading_stops, reading_more, reading_last}
use Rattle.zst_dir.proofs.lists.read_bookmarks.Goals as goal

pub loop-init : goal.loop-init
loop-init c = reading_first bookmark_bytes IsBookmarkRow c.args.cursor.now c.word.new.self c.args.bookmarks.now.items c.in-Some.count c.in-Some.ensures.exact

pub returns-in-None : goal.returns-in-None
returns-in-None c = record {
  rows = search rules;
  exact = λ rows rest are is.
      absurd (reading_stops bookmark_bytes IsBookmarkRow c.args.cursor.now c.args.bookmarks.now.items c.in-Some.count c.loop.counter c.loop.bookmarks.items c.loop.cursor c.read_bookmark.new.cursor
      c.loop.invariant c.loop-test.true c.in-None.ensures.exact rows rest are is);
}

pub loop-preserved : goal.loop-preserved
loop-preserved c =
    rw c.in_ok-push-in-Some-read_bookmark.ensures.items
    (reading_more bookmark_bytes IsBookmarkRow c.args.cursor.now c.args.bookmarks.now.items c.in-Some.count c.loop.counter c.loop.bookmarks.items c.loop.cursor c.read_bookmark.new.cursor
    c.in-Some-read_bookmark.bookmark c.loop.invariant c.loop-test.true c.in-Some-read_bookmark.ensures.fits c.in-Some-read_bookmark.ensures.exact)

pub returns : goal.returns
returns c = record {
  rows = search rules;
  exact = λ rows rest are is.
      let last = reading_last bookmark_bytes IsBookmarkRow c.args.cursor.now c.args.bookmarks.now.items c.in-Some.count c.loop.counter c.loop.bookmarks.items c.loop.cursor
      c.loop.invariant (omega arith) rows rest are is in
      (refl, last.0, last.1);
}
