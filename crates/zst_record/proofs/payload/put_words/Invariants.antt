use Rattle.std.proofs.Common.{◌≡◌, ◌+◌, ◌*◌, ◌++◌, take, drop, flat_map}
use Rattle.zst_bytes.specs.Words.{word}
use Rattle.zst_record.proofs.payload.put_words.Given as goal

abbrev pub invariant-loop-number : goal.invariant-loop-number
invariant-loop-number l = record {
  place : l.place ≡ l.at + 8 * l.number-index;
  words : l.into ≡ (take l.at l.fn.into ++ flat_map word (take l.number-index l.numbers)) ++ drop (l.at + 8 * l.number-index) l.fn.into;
}
