use Rattle.std.proofs.Common.{arith, ◌∙◌}
use Rattle.zst_bytes.proofs.FrontWords.{word_in_front, long_with_word, word_read, word_rest}
use Rattle.zst_bytes.proofs.cursor.split_word.Goals as goal

pub returns-in_err-front-clause-exact : goal.returns-in_err-front-clause-exact
returns-in_err-front-clause-exact c = λ n rest fits is. absurd (omega (arith, long_with_word c.args.bytes.now rest n is, c.in_err-front.ensures.cases))

pub returns-clause-found : goal.returns-clause-found
returns-clause-found c =
    let cases = c.in_ok-front.ensures.cases in
    rw cases.1 (word_in_front c.args.bytes.now c.in_ok-front.front.now c.from_le_bytes.result (omega (arith, cases.2)) (λ i. omega (arith, c.type_inv.bytes i)) cases.0 c.from_le_bytes.ensures)

pub returns-clause-exact : goal.returns-clause-exact
returns-clause-exact c = λ n rest fits is.
    let cases = c.in_ok-front.ensures.cases in
    (word_read c.args.bytes.now rest c.in_ok-front.front.now n c.from_le_bytes.result fits is cases.0 c.from_le_bytes.ensures, cases.1 ∙ word_rest c.args.bytes.now rest n is)
