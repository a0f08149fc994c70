use Rattle.std.proofs.Common.{arith}
use Rattle.zst_bytes.proofs.FrontWords.{word_in_front}
use Rattle.zst_extents.proofs.spelling.split_word.Goals as goal

pub returns-clause-found : goal.returns-clause-found
returns-clause-found c =
    let cases = c.in-Some.ensures.cases in
    rw cases.1 (word_in_front c.args.bytes.now c.in-Some.front.now c.from_le_bytes.result (omega (arith, cases.2)) (λ i. omega (arith, c.type_inv.bytes i)) cases.0 c.from_le_bytes.ensures)
