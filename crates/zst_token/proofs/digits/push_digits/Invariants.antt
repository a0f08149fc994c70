use Rattle.std.proofs.Common.{◌≡◌, ◌+◌, ◌*◌, ◌++◌, take, flat_map}
use Rattle.arrayvec.specs.ArrayString.{array_string_len}
use Rattle.hex.specs.Hex.{encode_lower}
use Rattle.zst_bytes.specs.Words.{word}
use Rattle.zst_token.proofs.digits.push_digits.Given as goal

abbrev pub invariant-loop-number : goal.invariant-loop-number
invariant-loop-number l = record {
  len : array_string_len l.text ≡ array_string_len l.fn.text + 16 * l.number-index;
  bytes : l.text.bytes ≡ l.fn.text.bytes ++ encode_lower (flat_map word (take l.number-index l.numbers));
}
