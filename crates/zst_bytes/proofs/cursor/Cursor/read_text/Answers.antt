use Rattle.std.proofs.Common.{◌≡◌, length, sym, ◌∙◌, arith, true, false}
use Rattle.zst_bytes.specs.Fields.{zeros}
use Rattle.zst_bytes.specs.Words.{padding}
use Rattle.zst_bytes.proofs.Texts.{behind_text, behind_length, length-filler, text_parts, text_of_parts, all_zeros}
use Rattle.zst_bytes.proofs.cursor.Cursor.read_text.Goals as goal

pub returns-in_err-len-clause-exact : goal.returns-in_err-len-clause-exact
returns-in_err-len-clause-exact c = λ text rest short is.
    absurd (cc (c.in_err-len.ensures.exact (length text) (behind_length text rest) (omega arith) (is ∙ text_parts text rest)).0)

pub returns-in_err-text-clause-exact : goal.returns-in_err-text-clause-exact
returns-in_err-text-clause-exact c = λ text rest short is.
    let word = c.in_ok-len.ensures.exact (length text) (behind_length text rest) (omega arith) (is ∙ text_parts text rest) in
    let size : length text ≡ c.in_ok-len.len = cc word.0 in
    absurd (cc (c.in_err-text.ensures.exact text (behind_text text rest) size word.1).0)

pub returns-in_err-padding-clause-exact : goal.returns-in_err-padding-clause-exact
returns-in_err-padding-clause-exact c = λ text rest short is.
    let word = c.in_ok-len.ensures.exact (length text) (behind_length text rest) (omega arith) (is ∙ text_parts text rest) in
    let size : length text ≡ c.in_ok-len.len = cc word.0 in
    let bytes = c.in_ok-text.ensures.exact text (behind_text text rest) size word.1 in
    let filled = length-filler text c.in_ok-len.len c.padding.result size c.padding.ensures in
    absurd (cc (c.in_err-padding.ensures.exact (zeros (padding (length text))) rest filled bytes.1).0)

pub returns-then-is_zeros-clause-found : goal.returns-then-is_zeros-clause-found
returns-then-is_zeros-clause-found c =
    text_of_parts c.args.self.now c.word.new.self c.bytes.new.self c.bytes-2.new.self c.in_ok-text.text.now c.in_ok-padding.padding.now c.in_ok-len.len
    c.in_ok-len.ensures.found c.in_ok-text.ensures.found c.in_ok-text.ensures.size
    c.in_ok-padding.ensures.found (c.in_ok-padding.ensures.size ∙ c.padding.ensures) (c.is_zeros.ensures.0 c.if-is_zeros.true)

pub returns-then-is_zeros-clause-exact : goal.returns-then-is_zeros-clause-exact
returns-then-is_zeros-clause-exact c = λ text rest short is.
    let word = c.in_ok-len.ensures.exact (length text) (behind_length text rest) (omega arith) (is ∙ text_parts text rest) in
    let size : length text ≡ c.in_ok-len.len = cc word.0 in
    let bytes = c.in_ok-text.ensures.exact text (behind_text text rest) size word.1 in
    let filled = length-filler text c.in_ok-len.len c.padding.result size c.padding.ensures in
    (bytes.0, (c.in_ok-padding.ensures.exact (zeros (padding (length text))) rest filled bytes.1).1)

pub returns-else-is_zeros-clause-exact : goal.returns-else-is_zeros-clause-exact
returns-else-is_zeros-clause-exact c = λ text rest short is.
    let word = c.in_ok-len.ensures.exact (length text) (behind_length text rest) (omega arith) (is ∙ text_parts text rest) in
    let size : length text ≡ c.in_ok-len.len = cc word.0 in
    let bytes = c.in_ok-text.ensures.exact text (behind_text text rest) size word.1 in
    let filled = length-filler text c.in_ok-len.len c.padding.result size c.padding.ensures in
    let same : c.in_ok-padding.padding.now ≡ zeros (padding (length text)) = cc (c.in_ok-padding.ensures.exact (zeros (padding (length text))) rest filled bytes.1).0 in
    let never : false ≡ true = sym c.if-is_zeros.false ∙ c.is_zeros.ensures.1 (rw same (all_zeros (padding (length text)))) in
    cc
