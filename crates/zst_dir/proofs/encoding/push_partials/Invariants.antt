use Rattle.zst_dir.specs.Spelling.{partial_bytes}
use Rattle.zst_dir.proofs.SpelledRows.{SpelledUpTo}
use Rattle.zst_dir.proofs.encoding.push_partials.Given as goal

abbrev pub invariant-loop-partial : goal.invariant-loop-partial
invariant-loop-partial l = SpelledUpTo partial_bytes l.fn.out.items l.partials l.partial-index l.out.items
