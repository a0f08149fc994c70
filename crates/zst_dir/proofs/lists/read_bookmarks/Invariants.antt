use Rattle.zst_dir.specs.Rows.{IsBookmarkRow}
use Rattle.zst_dir.specs.Spelling.{bookmark_bytes}
use Rattle.zst_dir.proofs.Loops.{Reading}
use Rattle.zst_dir.proofs.lists.read_bookmarks.Given as goal

abbrev pub invariant-loop : goal.invariant-loop
invariant-loop l = Reading bookmark_bytes IsBookmarkRow l.fn.cursor l.fn.bookmarks.items l.count l.counter l.bookmarks.items l.cursor
