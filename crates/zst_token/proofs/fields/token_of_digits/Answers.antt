use Rattle.std.proofs.Common.{◌/◌, ◌%◌, length, refl, arith}
use Rattle.std.proofs.lemmas.Bool.{ne_eqb, eq-eqb}
use Rattle.zst_token.specs.Parser.{numbers_in, token_of_digits}
use Rattle.zst_token.proofs.FieldLaws.{fields_long}
use Rattle.zst_token.proofs.Numbers.{length-numbers_in}
use Rattle.zst_token.proofs.fields.token_of_digits.Goals.{then-digits-ne0-via-then-digits-ne0, then-digits-ne0-via-else-digits-ne0+then-count-gt-MOST_NUMBERS}
use Rattle.zst_token.proofs.fields.token_of_digits.Goals as goal

pub returns-then-digits-ne0 : goal.returns-then-digits-ne0
unfolding token_of_digits
returns-then-digits-ne0 c =
    let digits = c.args.digits.now in
    let count = length digits / 16 in
    elim c.then-digits-ne0.branch [
      | then-digits-ne0-via-then-digits-ne0 w ↦ rw (ne_eqb (length digits % 16) 0 w.if-digits-ne0.true) refl
      | then-digits-ne0-via-else-digits-ne0+then-count-gt-MOST_NUMBERS w ↦
          rw (eq-eqb (length digits % 16) 0 w.if-digits-ne0.false) (fields_long (numbers_in count digits) (omega (arith, length-numbers_in count digits, w.if-count-gt-MOST_NUMBERS.true)))
    ]
