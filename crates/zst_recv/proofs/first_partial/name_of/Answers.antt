use Rattle.std.proofs.Common.{ℕ, Option, Some, List, sym, ap, ◌∙◌, subst, get_or, option_map}
use Rattle.zst_dir.specs.declared.rows.Snapshot.{Snapshot}
use Rattle.zst_model.specs.pools.Pool.{Snapshot as Plain}
use Rattle.zst_plan.specs.Places.{FindAlike, StandsAt}
use Rattle.zst_recv.proofs.FirstPartials.{base_is}
use Rattle.zst_recv.proofs.first_partial.name_of.Goals as goal

pub returns-in-Some-clause-named : goal.returns-in-Some-clause-named
returns-in-Some-clause-named c = λ bound image space running found runs alike.
    let rows = c.args.dir.now in
    let place = c.in-Some.place in
    let row = c.index-snapshots-place.result in
    let base = base_is bound image space rows running runs place row found (subst (λ (b : Option ℕ). FindAlike (StandsAt rows.snapshots running.snapshots) b found) c.in-Some.is alike)
    (c.index-snapshots-place.is ∙ ap (λ (xs : List Snapshot). get_or xs place row) c.snapshots.ensures) in
    ap (λ (o : Option Plain). option_map (λ snapshot. snapshot.name) o) base.1 ∙ ap (λ (n : List ℕ). Some n) (base.2.named.name ∙ ap (λ (r : Snapshot). r.name) c.index-snapshots-place.is ∙ sym c.duplicate.ensures)
