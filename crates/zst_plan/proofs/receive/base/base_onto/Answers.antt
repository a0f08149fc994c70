use Rattle.std.proofs.Common.{◌≡◌, ◌∙◌, Bool, List, Some, get_or, refl, sym, ap, subst}
use Rattle.zst_dir.specs.declared.rows.Snapshot.{Snapshot}
use Rattle.zst_model.specs.states.AppliedItems.{◌>>=◌}
use Rattle.zst_plan.specs.Places.{StandsAt}
use Rattle.zst_plan.specs.Receipts.{IsBaseOf}
use Rattle.zst_plan.specs.RecvPlan.{Base, base_by_head, base_onto, find_latest, if_kind, if_source}
use Rattle.zst_plan.proofs.LookupLemmas.{row_names}
use Rattle.zst_plan.proofs.ReceiveChecks.{is_increment, onto_latest, onto_named}
use Rattle.zst_plan.proofs.receive.base.base_onto.Goals as goal
use Rattle.zst_plan.proofs.AlikeAnswers.{ok_alike, err_alike, refuses, answers}

pub returns-in_err-check_increment-clause-exact : goal.returns-in_err-check_increment-clause-exact
returns-in_err-check_increment-clause-exact c = λ pool target are names tells.
    let rows = c.args.dir.now in
    let header = c.args.header.now in
    let ask = c.args.ask.now in
    let name = c.args.dataset.now.name in
    refuses (IsBaseOf rows pool) c.from_residual.result (base_onto ask header pool target) c.in_err-check_increment.field-0.0 c.from_residual.ensures.1
    (onto_named ask header pool target name names.name ∙ c.in_err-check_increment.ensures (find_latest name header pool >>= onto_latest header ask.force pool target))

pub returns-in_err-place-clause-exact : goal.returns-in_err-place-clause-exact
returns-in_err-place-clause-exact c = λ pool target are names tells.
    let rows = c.args.dir.now in
    let header = c.args.header.now in
    let ask = c.args.ask.now in
    let name = c.args.dataset.now.name in
    let fault = c.in_err-place.field-0.0 in
    refuses (IsBaseOf rows pool) c.from_residual-in_err-place.result (base_onto ask header pool target) fault c.from_residual-in_err-place.ensures.1
    (onto_named ask header pool target name names.name ∙ c.in_ok-check_increment.ensures (find_latest name header pool >>= onto_latest header ask.force pool target)
    ∙ ap (λ r. r >>= onto_latest header ask.force pool target) (err_alike (StandsAt rows.snapshots pool.snapshots) fault (find_latest name header pool) (c.in_err-place.ensures.found pool are)))

pub returns-in_err-check_source-clause-exact : goal.returns-in_err-check_source-clause-exact
returns-in_err-check_source-clause-exact c = λ pool target are names tells.
    let rows = c.args.dir.now in
    let header = c.args.header.now in
    let ask = c.args.ask.now in
    let name = c.args.dataset.now.name in
    let place = c.in_ok-place.place in
    let row = c.index-snapshots-place.result in
    let s = ok_alike (StandsAt rows.snapshots pool.snapshots) place (find_latest name header pool) (c.in_ok-place.ensures.found pool are) in
    let is = row_names rows pool are place row s.0 s.2 (c.index-snapshots-place.is ∙ ap (λ (xs : List Snapshot). get_or xs place row) c.snapshots.ensures) in
    let next = if_kind target.kind header (base_by_head ask.force target s.0 pool) in
    refuses (IsBaseOf rows pool) c.from_residual-in_err-check_source.result (base_onto ask header pool target) c.in_err-check_source.field-0.0 c.from_residual-in_err-check_source.ensures.1
    (onto_named ask header pool target name names.name ∙ c.in_ok-check_increment.ensures (find_latest name header pool >>= onto_latest header ask.force pool target)
    ∙ ap (λ r. r >>= onto_latest header ask.force pool target) s.1
    ∙ ap (λ guid. if_source guid header next) is.guid ∙ c.in_err-check_source.ensures next)

pub returns-in_err-check_kind-clause-exact : goal.returns-in_err-check_kind-clause-exact
returns-in_err-check_kind-clause-exact c = λ pool target are names tells.
    let rows = c.args.dir.now in
    let header = c.args.header.now in
    let ask = c.args.ask.now in
    let name = c.args.dataset.now.name in
    let place = c.in_ok-place.place in
    let row = c.index-snapshots-place.result in
    let s = ok_alike (StandsAt rows.snapshots pool.snapshots) place (find_latest name header pool) (c.in_ok-place.ensures.found pool are) in
    let is = row_names rows pool are place row s.0 s.2 (c.index-snapshots-place.is ∙ ap (λ (xs : List Snapshot). get_or xs place row) c.snapshots.ensures) in
    let last = base_by_head ask.force target s.0 pool in
    refuses (IsBaseOf rows pool) c.from_residual-in_err-check_kind.result (base_onto ask header pool target) c.in_err-check_kind.field-0.0 c.from_residual-in_err-check_kind.ensures.1
    (onto_named ask header pool target name names.name ∙ c.in_ok-check_increment.ensures (find_latest name header pool >>= onto_latest header ask.force pool target)
    ∙ ap (λ r. r >>= onto_latest header ask.force pool target) s.1
    ∙ ap (λ guid. if_source guid header (if_kind target.kind header last)) is.guid ∙ c.in_ok-check_source.ensures (if_kind target.kind header last)
    ∙ ap (λ kind. if_kind kind header last) names.kind ∙ c.in_err-check_kind.ensures last)

pub returns-in_err-rolls-clause-exact : goal.returns-in_err-rolls-clause-exact
returns-in_err-rolls-clause-exact c = λ pool target are names tells.
    let rows = c.args.dir.now in
    let header = c.args.header.now in
    let ask = c.args.ask.now in
    let name = c.args.dataset.now.name in
    let place = c.in_ok-place.place in
    let row = c.index-snapshots-place.result in
    let s = ok_alike (StandsAt rows.snapshots pool.snapshots) place (find_latest name header pool) (c.in_ok-place.ensures.found pool are) in
    let is = row_names rows pool are place row s.0 s.2 (c.index-snapshots-place.is ∙ ap (λ (xs : List Snapshot). get_or xs place row) c.snapshots.ensures) in
    let last = base_by_head ask.force target s.0 pool in
    let fault = c.in_err-rolls.field-0.0 in
    refuses (IsBaseOf rows pool) c.from_residual-in_err-rolls.result (base_onto ask header pool target) fault c.from_residual-in_err-rolls.ensures.1
    (onto_named ask header pool target name names.name ∙ c.in_ok-check_increment.ensures (find_latest name header pool >>= onto_latest header ask.force pool target)
    ∙ ap (λ r. r >>= onto_latest header ask.force pool target) s.1
    ∙ ap (λ guid. if_source guid header (if_kind target.kind header last)) is.guid ∙ c.in_ok-check_source.ensures (if_kind target.kind header last)
    ∙ ap (λ kind. if_kind kind header last) names.kind ∙ c.in_ok-check_kind.ensures last
    ∙ err_alike (λ (rolls : Bool) (base : Base). base ≡ record { snapshot = Some s.0; rolls = rolls }) fault last (c.in_err-rolls.ensures pool target s.0 are names (tells (is_increment ask header name (λ rest. c.in_ok-check_increment.ensures rest))) is))

pub returns-clause-exact : goal.returns-clause-exact
returns-clause-exact c = λ pool target are names tells.
    let rows = c.args.dir.now in
    let header = c.args.header.now in
    let ask = c.args.ask.now in
    let name = c.args.dataset.now.name in
    let place = c.in_ok-place.place in
    let row = c.index-snapshots-place.result in
    let s = ok_alike (StandsAt rows.snapshots pool.snapshots) place (find_latest name header pool) (c.in_ok-place.ensures.found pool are) in
    let is = row_names rows pool are place row s.0 s.2 (c.index-snapshots-place.is ∙ ap (λ (xs : List Snapshot). get_or xs place row) c.snapshots.ensures) in
    let last = base_by_head ask.force target s.0 pool in
    let rolls = c.in_ok-rolls.rolls in
    let r = ok_alike (λ (rolls : Bool) (base : Base). base ≡ record { snapshot = Some s.0; rolls = rolls }) rolls last (c.in_ok-rolls.ensures pool target s.0 are names (tells (is_increment ask header name (λ rest. c.in_ok-check_increment.ensures rest))) is) in
    answers (IsBaseOf rows pool) (record { snapshot = Some place; rolls = rolls }) r.0 (base_onto ask header pool target)
    (onto_named ask header pool target name names.name ∙ c.in_ok-check_increment.ensures (find_latest name header pool >>= onto_latest header ask.force pool target)
    ∙ ap (λ r. r >>= onto_latest header ask.force pool target) s.1
    ∙ ap (λ guid. if_source guid header (if_kind target.kind header last)) is.guid ∙ c.in_ok-check_source.ensures (if_kind target.kind header last)
    ∙ ap (λ kind. if_kind kind header last) names.kind ∙ c.in_ok-check_kind.ensures last ∙ r.1)
    (subst (IsBaseOf rows pool (record { snapshot = Some place; rolls = rolls })) (sym r.2) (s.2, refl))
