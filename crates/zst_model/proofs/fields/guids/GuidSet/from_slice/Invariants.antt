use Rattle.std.proofs.Common.{◌≡◌, take}
use Rattle.zst_model.specs.fields.Guids.{IsGuidSet}
use Rattle.zst_model.proofs.fields.guids.GuidSet.from_slice.Given as goal

abbrev pub invariant-loop-guid : goal.invariant-loop-guid
invariant-loop-guid l = record {
  front : l.set ≡ take l.guid-index l.guids;
  lawful : IsGuidSet l.set;
}
