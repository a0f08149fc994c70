use Rattle.std.proofs.Common.{rules, of_calls, ℕ, ◌<◌, List, length, get_or, Option, sym, ap, ◌∙◌, subst, arith}
use Rattle.std.specs.Option.{IfSome}
use Rattle.zst_dir.specs.RowNames.{NamesSnapshot}
use Rattle.zst_dir.specs.declared.rows.Snapshot.{Snapshot}
use Rattle.zst_dir.proofs.Matches.{length-Match}
use Rattle.zst_check.proofs.NumberedPlaces.{IsLower, dataset_is, decided_above, decided_none, decided_some, lower_found, lower_inside}
use Rattle.zst_check.proofs.numbers.is_numbered.Goals as goal

pub returns-in-None : goal.returns-in-None
returns-in-None c = λ pool are same.
    decided_none c.args.dir.now pool are c.snapshots-rows.result.now c.snapshots-rows.ensures c.args.place c.args.number c.index-rows-place.result c.index-rows-place.is c.requires same
    (subst (λ (r : Option ℕ). IsLower pool c.args.place r) c.in-None.is
    (lower_found pool c.args.place c.dataset-dataset.result c.neighbour.result c.or_else-before.result (λ h origin. search (rules, of_calls))
    (λ d. dataset_is c.args.dir.now pool are c.args.place c.index-rows-place.result d c.requires
    (c.index-rows-place.is ∙ ap (λ (rows : List Snapshot). get_or rows c.args.place c.index-rows-place.result) c.snapshots-rows.ensures) ∙ sym c.dataset-dataset.ensures)
    (c.neighbour.ensures.found pool are (omega (arith, c.requires, length-Match NamesSnapshot c.args.dir.now.snapshots pool.snapshots are.snapshots))) c.or_else-before.ensures))

pub returns-else-row-number : goal.returns-else-row-number
returns-else-row-number c = λ pool are same.
    decided_above c.args.dir.now pool are c.snapshots-rows.result.now c.snapshots-rows.ensures c.args.place c.args.number c.index-rows-place.result c.index-rows-place.is c.requires same c.if-row-number.false

pub returns-then-row-number : goal.returns-then-row-number
returns-then-row-number c = λ pool are same.
    decided_some c.args.dir.now pool are c.snapshots-rows.result.now c.snapshots-rows.ensures c.args.place c.args.number c.index-rows-place.result c.index-rows-place.is c.requires same
    c.in-Some.before c.index-rows-before.result
    (subst (λ (r : Option ℕ). IfSome r (λ before. before < length c.args.dir.now.snapshots)) c.in-Some.is
    (lower_inside (length c.args.dir.now.snapshots) c.neighbour.result c.or_else-before.result (λ h. search (rules, of_calls)) c.neighbour.ensures.inside c.or_else-before.ensures))
    c.if-row-number.true
    (subst (λ (r : Option ℕ). IsLower pool c.args.place r) c.in-Some.is
    (lower_found pool c.args.place c.dataset-dataset.result c.neighbour.result c.or_else-before.result (λ h origin. search (rules, of_calls))
    (λ d. dataset_is c.args.dir.now pool are c.args.place c.index-rows-place.result d c.requires
    (c.index-rows-place.is ∙ ap (λ (rows : List Snapshot). get_or rows c.args.place c.index-rows-place.result) c.snapshots-rows.ensures) ∙ sym c.dataset-dataset.ensures)
    (c.neighbour.ensures.found pool are (omega (arith, c.requires, length-Match NamesSnapshot c.args.dir.now.snapshots pool.snapshots are.snapshots))) c.or_else-before.ensures))
