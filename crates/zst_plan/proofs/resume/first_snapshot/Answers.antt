use Rattle.std.proofs.Common.{rules, ◌∙◌, List, Some, None, length, get_or, option_map, sym, ap, subst, arith}
use Rattle.zst_dir.specs.RowNames.{NamesSnapshot}
use Rattle.zst_dir.specs.declared.rows.Snapshot.{Snapshot}
use Rattle.zst_model.specs.pools.Ancestry.{OfSnapshot}
use Rattle.zst_plan.specs.Places.{FindAlike}
use Rattle.zst_plan.specs.ResumePlan.{is_from}
use Rattle.zst_plan.specs.Sources.{IsSource}
use Rattle.zst_plan.specs.declared.source.Source.TheVariants as sources
use Rattle.zst_plan.proofs.FirstPlaces.{first_here, first_later, none_passes}
use Rattle.zst_plan.proofs.resume.first_snapshot.Goals as goal

pub returns-then-is_from : goal.returns-then-is_from
returns-then-is_from c = record {
  inside = search rules;
  found = λ pool later are to.
      let row = c.index-snapshots-place.result in
      let first = first_here NamesSnapshot (λ row. is_from c.args.token.now pool later (OfSnapshot row)) c.args.dir.now.snapshots pool.snapshots are.snapshots c.loop-place.place row (omega (arith, c.loop-place-test.true, ap length c.snapshots-place-end.ensures))
      (c.index-snapshots-place.is ∙ ap (λ (xs : List Snapshot). get_or xs c.loop-place.place c.index-snapshots-place.result) c.snapshots.ensures)
      (c.loop-place.invariant pool later are to) c.is_from.result (λ y names. c.is_from.ensures pool later (OfSnapshot y) are to names) c.if-is_from.true in
      subst (FindAlike (IsSource c.args.dir.now pool) (Some (sources.Snapshot c.loop-place.place (record { ref_ptr = (0, 0); now = row })))) (sym (ap (option_map OfSnapshot) first.1)) (first.3, first.2);
}

pub loop-place-preserved : goal.loop-place-preserved
loop-place-preserved c = λ pool later are to.
    first_later NamesSnapshot (λ row. is_from c.args.token.now pool later (OfSnapshot row)) c.args.dir.now.snapshots pool.snapshots are.snapshots c.loop-place.place c.index-snapshots-place.result (omega (arith, c.loop-place-test.true, ap length c.snapshots-place-end.ensures))
    (c.index-snapshots-place.is ∙ ap (λ (xs : List Snapshot). get_or xs c.loop-place.place c.index-snapshots-place.result) c.snapshots.ensures)
    (c.loop-place.invariant pool later are to) c.is_from.result (λ y names. c.is_from.ensures pool later (OfSnapshot y) are to names) c.if-is_from.false

pub returns : goal.returns
returns c = record {
  inside = search rules;
  found = λ pool later are to.
      subst (FindAlike (IsSource c.args.dir.now pool) None)
      (sym (ap (option_map OfSnapshot) (none_passes NamesSnapshot (λ row. is_from c.args.token.now pool later (OfSnapshot row)) c.args.dir.now.snapshots pool.snapshots are.snapshots c.loop-place.place
      (omega (arith, c.loop-place-test.false, ap length c.snapshots-place-end.ensures)) (c.loop-place.invariant pool later are to)))) tt;
}
