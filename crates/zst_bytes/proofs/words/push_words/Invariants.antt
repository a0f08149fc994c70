use Rattle.std.proofs.Common.{◌≡◌, ◌++◌, length, take}
use Rattle.std.specs.List.{flat_map}
use Rattle.zst_bytes.specs.Words.{word}
use Rattle.zst_bytes.proofs.words.push_words.Given as goal

abbrev pub invariant-loop-number : goal.invariant-loop-number
invariant-loop-number l = l.out.items ≡ l.fn.out.items ++ (word (length l.numbers) ++ flat_map word (take l.number-index l.numbers))
