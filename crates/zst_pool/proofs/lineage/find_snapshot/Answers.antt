use Rattle.std.proofs.Common.{rules, ◌≡◌, ◌∙◌, true, sym, ap, subst, List, Some, is_some, get_or}
use Rattle.std.specs.Str.{bytes_eq}
use Rattle.std.proofs.lemmas.List.Quantifiers.{position-Some}
use Rattle.zst_model.proofs.OrderLaws.{same_bytes}
use Rattle.zst_model.specs.refusals.Refusal.{refusal_of}
use Rattle.zst_model.specs.pools.Pool.{snapshot_named}
use Rattle.zst_model.proofs.Options.{none_there}
use Rattle.zst_dir.specs.RowNames.{StandAlike}
use Rattle.zst_dir.specs.declared.rows.Snapshot.{Snapshot}
use Rattle.zst_dir.proofs.NamedRows.{snapshot_is_there}
use Rattle.zst_pool.proofs.RedactionRows.{find_first}
use Rattle.zst_pool.proofs.SnapshotRows.{snapshot_at}
use Rattle.zst_pool.proofs.lineage.find_snapshot.Goals as goal

pub returns-in-None-clause-finds : goal.returns-in-None-clause-finds
returns-in-None-clause-finds c = record {
  rows = search rules;
  judged = λ pool are.
      let name = c.args.name.now in (
        none_there (snapshot_named name pool) (sym (snapshot_is_there c.args.dir.now pool are name) ∙ ap is_some (sym c.snapshot.ensures ∙ c.in-None.is)),
        ap refusal_of c.no_snapshot.ensures,
      );
}

pub returns-in-Some-clause-there : goal.returns-in-Some-clause-there
returns-in-Some-clause-there c =
    let rows = c.args.dir.now in
    let name = c.args.name.now in
    let place = c.in-Some.place in
    let row = c.index-snapshots-place.result in
    let here : get_or rows.snapshots place row ≡ row = ap (λ (xs : List Snapshot). get_or xs place row) (sym c.snapshots-snapshots.ensures) ∙ sym c.index-snapshots-place.is in
    let at = position-Some (λ (snapshot : Snapshot). bytes_eq snapshot.name name) rows.snapshots place row (sym c.snapshot.ensures ∙ c.in-Some.is) in
    let named : bytes_eq row.name name ≡ true = ap (λ (snapshot : Snapshot). bytes_eq snapshot.name name) (sym here) ∙ at.1 in
    ((place, at.0, here), same_bytes row.name name named)

pub returns-in-Some-clause-found : goal.returns-in-Some-clause-found
returns-in-Some-clause-found c =
    let rows = c.args.dir.now in
    let name = c.args.name.now in
    let test = λ (snapshot : Snapshot). bytes_eq snapshot.name name in
    let place = c.in-Some.place in
    let row = c.index-snapshots-place.result in
    let here : get_or rows.snapshots place row ≡ row = ap (λ (xs : List Snapshot). get_or xs place row) (sym c.snapshots-snapshots.ensures) ∙ sym c.index-snapshots-place.is in
    let at = position-Some test rows.snapshots place row (sym c.snapshot.ensures ∙ c.in-Some.is) in
    find_first test rows.snapshots place row at.0 at.1 at.2 ∙ ap (λ (r : Snapshot). Some r) here

pub returns-in-Some-clause-finds : goal.returns-in-Some-clause-finds
returns-in-Some-clause-finds c = record {
  rows = search rules;
  judged = λ pool are.
      let rows = c.args.dir.now in
      let place = c.in-Some.place in
      let row = c.index-snapshots-place.result in
      let here : get_or rows.snapshots place row ≡ row = ap (λ (xs : List Snapshot). get_or xs place row) (sym c.snapshots-snapshots.ensures) ∙ sym c.index-snapshots-place.is in
      let found = snapshot_at rows pool are c.args.name.now place row (sym c.snapshot.ensures ∙ c.in-Some.is) in
      (found.0, subst (λ (r : Snapshot). StandAlike rows.snapshots pool.snapshots r found.0) here found.1, found.2, found.3);
}
