use Rattle.std.proofs.Common.{◌+◌, ◌++◌, ◌∙◌, ap, arith, take, drop}
use Rattle.zst_fletcher.specs.WeightSum.{words}
use Rattle.zst_fletcher.specs.Pairs.{pairs_of}
use Rattle.zst_fletcher.proofs.Words.{length-row, words-rows}
use Rattle.zst_fletcher.proofs.lanes.Pairs.add_step.Goals as goal

pub returns : goal.returns
returns c = λ before whole is.
    let bytes = c.args.bytes.now in
    let at = c.args.at in
    let one = before ++ words (take 32 (drop at bytes)) in
    let two = one ++ words (take 32 (drop (at + 32) bytes)) in
    let three = two ++ words (take 32 (drop (at + 64) bytes)) in
    let whole_one = length-row before bytes at whole (omega arith) in
    let whole_two = length-row one bytes (at + 32) whole_one (omega arith) in
    let whole_three = length-row two bytes (at + 64) whole_two (omega arith) in
    let first = c.add_row.ensures before whole is in
    let second = c.add_row-2.ensures one whole_one first in
    let third = c.add_row-3.ensures two whole_two second in
    c.add_row-4.ensures three whole_three third ∙ ap pairs_of (words-rows before bytes at (omega arith))
