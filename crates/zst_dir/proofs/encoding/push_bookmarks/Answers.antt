use Rattle.zst_dir.specs.Spelling.{bookmark_bytes}
use Rattle.zst_dir.proofs.SpelledRows.{spelled-none, spelled-more, spelled-all}
use Rattle.zst_dir.proofs.encoding.push_bookmarks.Goals as goal

pub loop-bookmark-init : goal.loop-bookmark-init
loop-bookmark-init c = spelled-none bookmark_bytes c.args.out.now.items c.args.bookmarks.now c.push_word.new.out.items c.in_ok-push_word.ensures

pub loop-bookmark-preserved : goal.loop-bookmark-preserved
loop-bookmark-preserved c =
    spelled-more bookmark_bytes c.args.out.now.items c.args.bookmarks.now c.loop-bookmark.bookmark-index c.bookmark-item.result c.loop-bookmark.out.items c.push_bookmark.new.out.items
    c.loop-bookmark-test.true c.bookmark-item.is c.loop-bookmark.invariant c.in_ok-push_bookmark.ensures

pub returns : goal.returns
returns c = spelled-all bookmark_bytes c.args.out.now.items c.args.bookmarks.now c.loop-bookmark.bookmark-index c.loop-bookmark.out.items c.loop-bookmark-test.false c.loop-bookmark.invariant
