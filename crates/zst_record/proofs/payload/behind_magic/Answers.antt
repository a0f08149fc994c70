use Rattle.std.proofs.Common.{◌/◌, ◌%◌, ◌∙◌, sym, length, arith}
use Rattle.std.proofs.lemmas.Bool.{ne_eqb, eq-eqb}
use Rattle.zst_record.specs.Payload.{numbers_in, behind_magic}
use Rattle.zst_record.proofs.PayloadFields.{numbers_long}
use Rattle.zst_record.proofs.PayloadNumbers.{length-numbers_in}
use Rattle.zst_record.proofs.payload.behind_magic.Goals.{then-rest-ne0-via-then-rest-ne0, then-rest-ne0-via-else-rest-ne0+then-count-gt-MOST_NUMBERS}
use Rattle.zst_record.proofs.payload.behind_magic.Goals as goal

pub returns-then-rest-ne0 : goal.returns-then-rest-ne0
unfolding behind_magic
returns-then-rest-ne0 c =
    let rest = c.args.rest.now in
    let count = length rest / 8 in
    elim c.then-rest-ne0.branch [
      | then-rest-ne0-via-then-rest-ne0 w ↦ rw (ne_eqb (length rest % 8) 0 w.if-rest-ne0.true) c.wrong.ensures
      | then-rest-ne0-via-else-rest-ne0+then-count-gt-MOST_NUMBERS w ↦
          rw (eq-eqb (length rest % 8) 0 w.if-rest-ne0.false)
          (c.wrong.ensures ∙ sym (numbers_long c.args.header (numbers_in count rest) (omega (arith, length-numbers_in count rest, w.if-count-gt-MOST_NUMBERS.true))))
    ]
