use Rattle.std.proofs.Common.{◌≡◌, ◌++◌, flat_map, ap, ◌∙◌, List, ℕ}
use Rattle.hex.specs.Hex.{encode_lower}
use Rattle.zst_bytes.specs.Words.{word}
use Rattle.zst_fletcher.specs.WeightSum.{weight_sum}
use Rattle.zst_model.specs.refusals.Texts.{guid_text}
use Rattle.zst_token.specs.Spelling.{token_text, payload_text, check_text}
use Rattle.zst_token.proofs.Texts.{text_of_parts}
use Rattle.zst_token.proofs.token.Token.print.Goals as goal

pub returns : goal.returns
unfolding token_text payload_text check_text
returns c =
    let numbers = c.numbers-numbers.ensures in
    let payload : encode_lower (flat_map word c.as_slice.result.now) ≡ payload_text c.args.self.now =
    ap (λ (l : List ℕ). encode_lower (flat_map word l)) (c.as_slice.ensures.value ∙ numbers) in
    let check : c.as_str.result.now ≡ check_text c.args.self.now =
    c.as_str.ensures.value ∙ c.checksum_of.ensures.check ∙ ap (λ (l : List ℕ). guid_text (weight_sum (flat_map word l)).b) (c.as_slice-2.ensures.value ∙ numbers) in
    text_of_parts c.new-text.result.bytes c.push_str.new.self.bytes c.push_digits.new.text.bytes c.push_str-2.new.self.bytes c.push_str-3.new.self.bytes (payload_text c.args.self.now) (check_text c.args.self.now)
    c.new-text.ensures c.push_str.ensures.bytes
    (c.push_digits.ensures.bytes ∙ ap (λ (l : List ℕ). c.push_str.new.self.bytes ++ l) payload)
    c.push_str-2.ensures.bytes
    (c.push_str-3.ensures.bytes ∙ ap (λ (l : List ℕ). c.push_str-2.new.self.bytes ++ l) check)
