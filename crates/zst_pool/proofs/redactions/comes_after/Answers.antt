use Rattle.std.proofs.Common.{◌≡◌, ◌∙◌, true, sym, ap, subst, List, is_some, get_or}
use Rattle.std.specs.Option.{option_map_or}
use Rattle.zst_model.specs.pools.Ancestry.{OfSnapshot}
use Rattle.zst_model.specs.pools.Pool.{snapshot_named}
use Rattle.zst_model.specs.sends.SendPlan.{comes_before}
use Rattle.zst_model.proofs.Options.{none_there}
use Rattle.zst_dir.specs.RowNames.{NamesSnapshot, StandAlike}
use Rattle.zst_dir.specs.declared.rows.Snapshot.{Snapshot}
use Rattle.zst_dir.proofs.Matches.{Match-alike}
use Rattle.zst_dir.proofs.NamedRows.{snapshot_is_there}
use Rattle.zst_pool.proofs.SnapshotRows.{snapshot_at}
use Rattle.zst_pool.proofs.redactions.comes_after.Goals as goal

pub returns-in-None : goal.returns-in-None
returns-in-None c = λ pool taken are names.
    let name = c.args.name.now in
    let none = none_there (snapshot_named name pool) (sym (snapshot_is_there c.args.dir.now pool are name) ∙ ap is_some (sym c.snapshot.ensures ∙ c.in-None.is)) in
    sym (ap (λ o. option_map_or (λ redaction. comes_before pool (OfSnapshot taken) redaction) o true) none)

pub returns-in-Some : goal.returns-in-Some
returns-in-Some c = λ pool taken are names.
    let rows = c.args.dir.now in
    let name = c.args.name.now in
    let place = c.in-Some.place in
    let row = c.index-snapshots-place.result in
    let here : get_or rows.snapshots place row ≡ row = ap (λ (xs : List Snapshot). get_or xs place row) (sym c.snapshots-snapshots.ensures) ∙ sym c.index-snapshots-place.is in
    let found = snapshot_at rows pool are name place row (sym c.snapshot.ensures ∙ c.in-Some.is) in
    let alike = subst (λ (r : Snapshot). StandAlike rows.snapshots pool.snapshots r found.0) here found.1 in
    let named = Match-alike NamesSnapshot rows.snapshots pool.snapshots row found.0 are.snapshots alike in
    c.snapshot_comes_before.ensures pool taken found.0 are names named
    ∙ sym (ap (λ o. option_map_or (λ redaction. comes_before pool (OfSnapshot taken) redaction) o true) found.2)
