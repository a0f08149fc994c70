use Rattle.std.proofs.Common.{◌≡◌, take, flat_map}
use Rattle.zst_bytes.specs.Words.{word}
use Rattle.zst_fletcher.specs.WeightSum.{weight_sum}
use Rattle.zst_token.proofs.digits.checksum_of.Given as goal

abbrev pub invariant-loop-number : goal.invariant-loop-number
invariant-loop-number l = l.sum ≡ weight_sum (flat_map word (take l.number-index l.numbers))
