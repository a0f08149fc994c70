use Rattle.std.proofs.Common.{arith}
use Rattle.zst_apply.proofs.HeadLaws.{free_range, stated}
use Rattle.zst_store_tests.proofs.apply.heads.free.Goals as goal

pub returns : goal.returns
returns c = (
  0,
  record {
    object_fits = stated c.args.object c.requires.object.0 c.requires.object.1;
    offset_fits = c.ranges.offset.fits;
    size_fits = c.ranges.length.fits;
    range = free_range c.args.offset c.args.length c.requires.range;
    to_fits = omega arith;
  },
)
