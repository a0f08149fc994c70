use Rattle.zst_dir.specs.Spelling.{bookmark_bytes}
use Rattle.zst_dir.proofs.SpelledRows.{SpelledUpTo}
use Rattle.zst_dir.proofs.encoding.push_bookmarks.Given as goal

abbrev pub invariant-loop-bookmark : goal.invariant-loop-bookmark
invariant-loop-bookmark l = SpelledUpTo bookmark_bytes l.fn.out.items l.bookmarks l.bookmark-index l.out.items
