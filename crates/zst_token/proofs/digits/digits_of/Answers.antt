use Rattle.std.proofs.Common.{◌≡◌, ap, refl, ◌∙◌}
use Rattle.std.proofs.lemmas.Nat.{be_bytes_8}
use Rattle.std.specs.Int.{w64, to_be_bytes, to_le_bytes}
use Rattle.hex.specs.Hex.{encode_lower}
use Rattle.zst_model.specs.refusals.Texts.{guid_text}
use Rattle.zst_token.proofs.Numbers.{word-to_le_bytes}
use Rattle.zst_token.proofs.SixteenDigits.{IsBytes-word}
use Rattle.zst_token.proofs.digits.digits_of.Goals as goal

pub returns-clause-digits : goal.returns-clause-digits
unfolding guid_text
returns-clause-digits c =
    let number = c.args.number in
    let turned : to_be_bytes w64 c.swap_bytes.result ≡ to_le_bytes w64 number = be_bytes_8 (to_le_bytes w64 number) c.swap_bytes.result refl (IsBytes-word number) c.swap_bytes.ensures in
    c.guid_text.ensures.digits ∙ ap encode_lower (turned ∙ word-to_le_bytes number)
