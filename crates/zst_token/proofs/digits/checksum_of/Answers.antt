use Rattle.std.proofs.Common.{◌≡◌, ap, sym, ◌∙◌, ◌++◌, arith, take, get_or, flat_map, List, ℕ}
use Rattle.std.proofs.lemmas.List.{take_all}
use Rattle.zst_bytes.specs.Words.{word}
use Rattle.zst_bytes.proofs.WordLists.{words-more}
use Rattle.zst_fletcher.specs.WeightSum.{weight_sum}
use Rattle.zst_model.specs.refusals.Texts.{guid_text}
use Rattle.zst_token.proofs.Numbers.{IsWhole-words, word-to_le_bytes}
use Rattle.zst_token.proofs.digits.checksum_of.Goals as goal

pub loop-number-preserved : goal.loop-number-preserved
loop-number-preserved c =
    let numbers = c.args.numbers.now in
    let place = c.loop-number.number-index in
    let before : List ℕ = flat_map word (take place numbers) in
    c.add.ensures before (IsWhole-words (take place numbers)) c.loop-number.invariant
    ∙ ap (λ (l : List ℕ). weight_sum (before ++ l)) (c.as_slice.ensures ∙ c.to_le_bytes.ensures ∙ word-to_le_bytes (get_or numbers place 0))
    ∙ ap weight_sum (sym (words-more numbers place c.loop-number-test.true))

pub returns-clause-check : goal.returns-clause-check
returns-clause-check c =
    let all : take c.loop-number.number-index c.args.numbers.now ≡ c.args.numbers.now = take_all c.loop-number.number-index c.args.numbers.now (omega arith) in
    c.guid_text.ensures.digits ∙ ap (λ sum. guid_text sum.b) (c.loop-number.invariant ∙ ap (λ (l : List ℕ). weight_sum (flat_map word l)) all)
