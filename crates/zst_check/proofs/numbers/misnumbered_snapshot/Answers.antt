use Rattle.std.proofs.Common.{below_more, length, refl, ap, arith}
use Rattle.zst_dir.specs.RowNames.{NamesSnapshot}
use Rattle.zst_dir.proofs.Matches.{length-Match}
use Rattle.zst_check.specs.NumberedPlaces.{IsNumberedAt}
use Rattle.zst_check.specs.ReportNames.{OfSnapshot, Twice}
use Rattle.zst_check.proofs.NumberedPlaces.{all_numbered, late_found}
use Rattle.zst_check.proofs.ReportNames.{listed_at}
use Rattle.zst_check.proofs.numbers.misnumbered_snapshot.Goals as goal

pub returns-then-not-is_numbered : goal.returns-then-not-is_numbered
returns-then-not-is_numbered c = record {
  found = λ pool are same.
      rw c.told.ensures
      (late_found c.args.dir.now pool are c.snapshots-rows.result.now c.snapshots-rows.ensures c.loop-place.place c.index-rows-place.result c.loop-place-test.true c.index-rows-place.is
      (c.if-not-is_numbered.ensures pool are same));
  named =
      let listed = listed_at c.args.dir.now.snapshots c.snapshots-rows.result.now c.loop-place.place c.index-rows-place.result c.snapshots-rows.ensures c.loop-place-test.true c.index-rows-place.is in
      rw c.told.ensures (Twice (OfSnapshot c.index-rows-place.result listed refl) refl);
}

pub loop-place-preserved : goal.loop-place-preserved
loop-place-preserved c = λ pool are same.
    below_more (λ k. IsNumberedAt pool k) c.loop-place.place (c.loop-place.invariant pool are same) (c.if-not-is_numbered.ensures pool are same)

pub returns : goal.returns
returns c = record {
  found = λ pool are same.
      all_numbered pool (λ k inside. c.loop-place.invariant pool are same k
      (omega (arith, inside, c.loop-place-test.false, ap length c.snapshots-rows.ensures, length-Match NamesSnapshot c.args.dir.now.snapshots pool.snapshots are.snapshots)));
  named = tt;
}
