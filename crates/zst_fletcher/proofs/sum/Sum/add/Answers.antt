use Rattle.std.proofs.Common.{◌≡◌, ◌++◌, ◌/◌, arith, length, length-append, append_assoc, sym, ap, ◌∙◌}
use Rattle.std.proofs.lemmas.List.{take-append-drop}
use Rattle.zst_fletcher.specs.WeightSum.{sums_of, words, weight_sum, IsWhole}
use Rattle.zst_fletcher.proofs.Words.{words-append, length-words}
use Rattle.zst_fletcher.proofs.sum.Sum.add.Goals as goal

pub returns-else-bytes-lt-WORTH_LANES : goal.returns-else-bytes-lt-WORTH_LANES
returns-else-bytes-lt-WORTH_LANES c = λ before whole is.
    let bytes = c.args.bytes.now in
    let steps = c.split_at.result.0.now in
    let rest = c.split_at.result.1.now in
    let whole_steps : IsWhole steps = omega (arith, c.split_at.ensures.front_len) in
    let count : length steps / 4 ≡ length (words steps) = omega (arith, length-words steps whole_steps) in
    let joined = c.append.ensures (words before) (words steps) is c.sum_of_steps.ensures count ∙ ap sums_of (sym (words-append before steps whole)) in
    let added = c.add_words-else-bytes-lt-WORTH_LANES.ensures (before ++ steps) (omega (arith, length-append before steps)) joined in
    let text : steps ++ rest ≡ bytes = rw (c.split_at.ensures.front, c.split_at.ensures.back) (take-append-drop _ bytes) in
    added ∙ ap weight_sum (append_assoc before steps rest ∙ ap (λ later. before ++ later) text)
