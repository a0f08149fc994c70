use Rattle.std.proofs.Common.{◌≡◌, length, arith, rules}
use Rattle.std.specs.Prelude.{replicate}
use Rattle.zst_block.specs.IoStates.{blocks_of}
use Rattle.zst_objset.proofs.AnswerLaws.{data_read, hole_read}
use Rattle.zst_objset.proofs.answers.read_leaf.Goals as goal

pub returns-in-0-clause-read : goal.returns-in-0-clause-read
returns-in-0-clause-read g c = λ block honest is fits.
    let zeros : c.fill.new.self ≡ replicate (length c.fill.new.self) 0 = search rules in
    hole_read (blocks_of c.args.io.now) c.args.ptr c.args.object c.args.index _ c.requires.index block (omega arith) is zeros

pub returns-in-1-clause-read : goal.returns-in-1-clause-read
returns-in-1-clause-read g c = λ block honest is fits.
    data_read (blocks_of c.args.io.now) c.args.ptr c.args.object c.args.index _ c.requires.index block (length c.args.into.now) _ (omega arith) is fits (λ bytes has long. c.read_data.ensures.read bytes honest has long)
