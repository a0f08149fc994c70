use Rattle.std.proofs.Common.{rules, ◌∙◌, List, get_or, ap}
use Rattle.zst_dir.specs.declared.rows.Snapshot.{Snapshot}
use Rattle.zst_model.specs.sends.SendPlan.{find_snapshot}
use Rattle.zst_model.specs.states.AppliedItems.{◌>>=◌}
use Rattle.zst_plan.specs.Places.{StandsAt}
use Rattle.zst_plan.specs.Receipts.{IsBaseOf}
use Rattle.zst_plan.specs.RecvPlan.{base_by_origin, cloned_base, if_frees, if_from_origin}
use Rattle.zst_plan.proofs.LookupLemmas.{row_names}
use Rattle.zst_plan.proofs.receive.new_dataset.base_by_origin.Goals as goal
use Rattle.zst_plan.proofs.AlikeAnswers.{ok_alike, refuses, hands_on}

pub returns-in_err-check_from_origin : goal.returns-in_err-check_from_origin
returns-in_err-check_from_origin c = record {
  inside = search rules;
  found = λ pool are.
      let rows = c.args.dir.now in
      let header = c.args.header.now in
      let place = c.in_ok-place.place in
      let row = c.index-snapshots-place.result in
      let s = ok_alike (StandsAt rows.snapshots pool.snapshots) place (find_snapshot c.args.name.now pool) (c.in_ok-place.ensures.finds.found pool are) in
      let names = row_names rows pool are place row s.0 s.2 (c.index-snapshots-place.is ∙ ap (λ (xs : List Snapshot). get_or xs place row) c.snapshots.ensures) in
      let next = if_frees header (cloned_base header pool s.0) in
      refuses (IsBaseOf rows pool) c.from_residual-in_err-check_from_origin.result (base_by_origin header pool c.args.name.now) c.in_err-check_from_origin.field-0.0 c.from_residual-in_err-check_from_origin.ensures.1
      (ap (λ r. r >>= (λ snapshot. if_from_origin snapshot header (if_frees header (cloned_base header pool snapshot)))) s.1 ∙ c.in_err-check_from_origin.ensures s.0 next names);
}

pub returns-in_err-check_frees : goal.returns-in_err-check_frees
returns-in_err-check_frees c = record {
  inside = search rules;
  found = λ pool are.
      let rows = c.args.dir.now in
      let header = c.args.header.now in
      let place = c.in_ok-place.place in
      let row = c.index-snapshots-place.result in
      let s = ok_alike (StandsAt rows.snapshots pool.snapshots) place (find_snapshot c.args.name.now pool) (c.in_ok-place.ensures.finds.found pool are) in
      let names = row_names rows pool are place row s.0 s.2 (c.index-snapshots-place.is ∙ ap (λ (xs : List Snapshot). get_or xs place row) c.snapshots.ensures) in
      let next = if_frees header (cloned_base header pool s.0) in
      refuses (IsBaseOf rows pool) c.from_residual-in_err-check_frees.result (base_by_origin header pool c.args.name.now) c.in_err-check_frees.field-0.0 c.from_residual-in_err-check_frees.ensures.1
      (ap (λ r. r >>= (λ snapshot. if_from_origin snapshot header (if_frees header (cloned_base header pool snapshot)))) s.1 ∙ c.in_ok-check_from_origin.ensures s.0 next names
      ∙ c.in_err-check_frees.ensures (cloned_base header pool s.0));
}

pub returns : goal.returns
returns c = record {
  inside = search rules;
  found = λ pool are.
      let rows = c.args.dir.now in
      let header = c.args.header.now in
      let place = c.in_ok-place.place in
      let row = c.index-snapshots-place.result in
      let s = ok_alike (StandsAt rows.snapshots pool.snapshots) place (find_snapshot c.args.name.now pool) (c.in_ok-place.ensures.finds.found pool are) in
      let names = row_names rows pool are place row s.0 s.2 (c.index-snapshots-place.is ∙ ap (λ (xs : List Snapshot). get_or xs place row) c.snapshots.ensures) in
      let next = if_frees header (cloned_base header pool s.0) in
      hands_on (IsBaseOf rows pool) c.cloned_base.result (base_by_origin header pool c.args.name.now) (cloned_base header pool s.0)
      (ap (λ r. r >>= (λ snapshot. if_from_origin snapshot header (if_frees header (cloned_base header pool snapshot)))) s.1 ∙ c.in_ok-check_from_origin.ensures s.0 next names
      ∙ c.in_ok-check_frees.ensures (cloned_base header pool s.0))
      (c.cloned_base.ensures.exact pool s.0 are s.2);
}
