use Rattle.std.proofs.Common.{◌≡◌, ◌-◌, ◌++◌, take, replicate, length, arith}
use Rattle.zst_line.proofs.Sizes.{spill_size_below}
use Rattle.zst_line.proofs.Spills.{halves_of, some_halves, block_filled}
use Rattle.zst_line.proofs.word_values.block.Goals as goal

pub unwrap-requires : goal.unwrap-requires
unwrap-requires c = some_halves c.args.word.now c.split_once.result c.split_once.ensures.cases c.requires

pub number-requires : goal.number-requires
number-requires c =
    let halves = halves_of c.args.word.now c.split_once.result c.unwrap.result c.split_once.ensures.cases c.unwrap.ensures c.requires in
    let small = spill_size_below c.requires.size c.requires.block in
    record { number = c.requires.size; spelled = halves.0; least = omega arith; most = omega arith }

pub returns : goal.returns
returns c =
    let halves = halves_of c.args.word.now c.split_once.result c.unwrap.result c.split_once.ensures.cases c.unwrap.ensures c.requires in
    let items = c.in_ok-resize.ensures.items in
    let taken = c.into_vec-block.ensures in
    let is = c.new.ensures in
    let made : c.new.result ≡ take c.number.result c.in_ok-bytes.field-0 ++ replicate (c.number.result - length c.in_ok-bytes.field-0) 0 = cc in
    let filled = block_filled c.args.word.now c.requires c.number.result c.unwrap.result.0.now c.unwrap.result.1.now c.in_ok-bytes.field-0 c.new.result halves.0 halves.1 c.number.ensures c.number.type_inv c.in_ok-bytes.ensures made in
    record { same = filled.is; size = (filled.size, filled.bytes) }
