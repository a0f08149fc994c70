use Rattle.std.proofs.Common.{arith}
use Rattle.std.proofs.lemmas.Bool.Decides.{nat_tests}
use Rattle.zst_apply.proofs.HeadLaws.{size_fits, stated}
use Rattle.zst_store_tests.proofs.apply.heads.put.Goals as goal

pub returns : goal.returns
returns c = (
  0,
  record {
    object_fits = stated c.args.object c.requires.object.0 c.requires.object.1;
    kind_fits = c.ranges.type_.fits;
    kind_there = grind (arith, nat_tests);
    bonus_kind_fits = omega arith;
    size = size_fits c.size_of.result c.size_of.ensures;
    bonus_len_fits = omega arith;
    max_block_fits = omega arith;
    to_fits = omega arith;
  },
)
