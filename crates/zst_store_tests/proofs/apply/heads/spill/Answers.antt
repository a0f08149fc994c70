use Rattle.std.proofs.Common.{arith, refl}
use Rattle.zst_model.specs.states.State.{is_spill_size}
use Rattle.zst_apply.proofs.HeadLaws.{stated}
use Rattle.zst_store_tests.proofs.apply.heads.spill.Goals as goal

pub returns : goal.returns
unfolding is_spill_size
returns c = (
  0,
  record {
    object_fits = stated c.args.object c.requires.object.0 c.requires.object.1;
    size_fits = refl;
    to_fits = omega arith;
  },
)
