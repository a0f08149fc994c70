use Rattle.std.proofs.Common.{refl}
use Rattle.zst_compare.proofs.leaves.slot_in.Goals as goal

pub returns-in-None-clause-damaged : goal.returns-in-None-clause-damaged
returns-in-None-clause-damaged c = rw c.of_layout.ensures (record {
  sector_is = refl;
  stated_is = refl;
  found_is = refl;
  lacks = record { place = c.args.place; under = c.requires.place; none = λ slot has. c.in-None.ensures.none refl slot has.fits (rw c.as_slice.ensures.bytes has.spelled) };
})
