use Rattle.std.proofs.Common.{◌<◌, length, IfSome, ℕ, Option, List, sym, ap, ◌∙◌, subst, get_or}
use Rattle.std.specs.Option.{option_map_or}
use Rattle.zst_block.specs.Blocks.{Has}
use Rattle.zst_dir.specs.declared.rows.Snapshot.{Snapshot}
use Rattle.zst_model.specs.pools.Pool.{untouched}
use Rattle.zst_image.specs.Reads.{SetIs}
use Rattle.zst_plan.specs.Places.{FindAlike, StandsAt}
use Rattle.zst_recv.specs.Damage.{IsSetAt}
use Rattle.zst_recv.proofs.FirstPartials.{none_held, objects_held, set_there}
use Rattle.zst_recv.proofs.first_partial.objects_of.Goals as goal

pub returns-in-Some-clause-held : goal.returns-in-Some-clause-held
returns-in-Some-clause-held c = λ bound image space running found runs alike.
    let rows = c.args.dir.now in
    let place = c.in-Some.place in
    let row = c.index-snapshots-place.result in
    subst (λ (r : Snapshot). SetIs bound (Has image space) r.objects (option_map_or (λ snapshot. snapshot.objects) found untouched)) c.index-snapshots-place.is
    (objects_held bound image space rows running runs place row found (subst (λ (b : Option ℕ). FindAlike (StandsAt rows.snapshots running.snapshots) b found) c.in-Some.is alike)
    (c.index-snapshots-place.is ∙ ap (λ (xs : List Snapshot). get_or xs place row) c.snapshots.ensures))

pub returns-in-None-clause-held : goal.returns-in-None-clause-held
returns-in-None-clause-held c = λ bound image space running found runs alike.
    let rows = c.args.dir.now in
    none_held bound image space rows running runs c.empty.result found c.empty.ensures (subst (λ (b : Option ℕ). FindAlike (StandsAt rows.snapshots running.snapshots) b found) c.in-None.is alike)

pub returns-in-Some-clause-base : goal.returns-in-Some-clause-base
returns-in-Some-clause-base c =
    let rows = c.args.dir.now in
    let row = c.index-snapshots-place.result in
    let below = subst (λ (b : Option ℕ). IfSome b (λ place. place < length rows.snapshots)) c.in-Some.is c.requires in
    subst (λ (r : Snapshot). IsSetAt rows c.args.base r.objects) c.index-snapshots-place.is
    (subst (λ (b : Option ℕ). IsSetAt rows b row.objects) (sym c.in-Some.is)
    (set_there rows c.in-Some.place row below (c.index-snapshots-place.is ∙ ap (λ (xs : List Snapshot). get_or xs c.in-Some.place row) c.snapshots.ensures)))

pub returns-in-None-clause-base : goal.returns-in-None-clause-base
returns-in-None-clause-base c = subst (λ (b : Option ℕ). IsSetAt c.args.dir.now b c.empty.result) (sym c.in-None.is) c.empty.ensures
