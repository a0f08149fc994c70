use Rattle.std.proofs.Common.{arith, refl}
use Rattle.zst_model.specs.sends.Features.{redacts}
use Rattle.zst_apply.proofs.HeadLaws.{in_range, stated}
use Rattle.zst_store_tests.proofs.apply.heads.redact.Goals as goal

pub returns : goal.returns
unfolding redacts
returns c = (
  redacts,
  record {
    redacted = refl;
    object_fits = stated c.args.object c.requires.object.0 c.requires.object.1;
    range = in_range c.args.offset c.args.length c.requires.range;
    to_fits = omega arith;
  },
)
