use Rattle.std.proofs.Common.{arith}
use Rattle.zst_record.proofs.PayloadWrites.{number_written, numbers_written}
use Rattle.zst_record.proofs.payload.put_words.Goals as goal

pub loop-number-preserved : goal.loop-number-preserved
loop-number-preserved c =
    let here = c.loop-number.invariant in
    record {
      place = omega arith;
      words =
          number_written c.args.numbers.now c.args.into.now c.loop-number.into c.put64.new.bytes c.args.at c.loop-number.place c.loop-number.number-index
          c.requires c.loop-number-test.true here.place here.words c.put64.ensures;
    }

pub returns-clause-words : goal.returns-clause-words
returns-clause-words c =
    numbers_written c.args.numbers.now c.args.into.now c.loop-number.into c.args.at c.loop-number.number-index c.loop-number-test.false (omega arith) c.loop-number.invariant.words
