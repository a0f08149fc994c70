use Rattle.std.proofs.Common.{arith}
use Rattle.zst_apply.proofs.HeadLaws.{size_fits, stated}
use Rattle.zst_store_tests.proofs.apply.heads.write.Goals as goal

pub returns : goal.returns
returns c = (
  0,
  record {
    object_fits = stated c.args.object c.requires.object.0 c.requires.object.1;
    kind_fits = omega arith;
    offset_fits = c.ranges.offset.fits;
    size_fits = rw c.from.ensures (size_fits c.size_of.result c.size_of.ensures);
    to_fits = omega arith;
  },
)
