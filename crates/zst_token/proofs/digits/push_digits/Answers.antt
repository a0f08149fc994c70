use Rattle.std.proofs.Common.{◌≡◌, ap, sym, ◌∙◌, ◌++◌, arith, take, get_or, flat_map, length, List, ℕ, append_assoc}
use Rattle.std.proofs.lemmas.List.{append-nil}
use Rattle.hex.specs.Hex.{encode_lower, encode_with}
use Rattle.zst_bytes.specs.Words.{word}
use Rattle.zst_token.proofs.Numbers.{digits-more}
use Rattle.zst_token.proofs.digits.push_digits.Goals as goal

pub loop-number-init : goal.loop-number-init
unfolding encode_with
loop-number-init c = record { len = omega arith; bytes = sym (append-nil c.args.text.now.bytes) }

pub loop-number-preserved : goal.loop-number-preserved
loop-number-preserved c =
    let numbers = c.args.numbers.now in
    let place = c.loop-number.number-index in
    let old = c.args.text.now.bytes in
    let before : List ℕ = encode_lower (flat_map word (take place numbers)) in
    let digits : c.as_str.result.now ≡ encode_lower (word (get_or numbers place 0)) = c.as_str.ensures.value ∙ c.digits_of.ensures.digits in
    record {
      len = omega (arith, c.push_str.ensures.len, ap length c.as_str.ensures.value, c.digits_of.ensures.sixteen);
      bytes = c.push_str.ensures.bytes ∙ ap (λ (l : List ℕ). l ++ c.as_str.result.now) c.loop-number.invariant.bytes ∙ append_assoc old before c.as_str.result.now
          ∙ ap (λ (l : List ℕ). old ++ l) (ap (λ (l : List ℕ). before ++ l) digits ∙ sym (digits-more numbers place c.loop-number-test.true));
    }
