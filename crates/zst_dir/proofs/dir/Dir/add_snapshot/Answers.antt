use Rattle.std.proofs.Common.{◌≡◌, ◌≢◌, List, ◌∷◌, ◌++◌, length, sym, ap, ◌∙◌, subst, arith}
use Rattle.std.specs.List.{All}
use Rattle.zst_names.specs.Names.{dataset_of}
use Rattle.zst_model.specs.pools.Pool.{inserted}
use Rattle.zst_dir.specs.Rows.{Rows, HasDataset, HasSnapshot, IsLawful, snapshot_is_before}
use Rattle.zst_dir.specs.declared.rows.Snapshot.{Snapshot}
use Rattle.zst_dir.proofs.Places.{position_or_len-le}
use Rattle.zst_dir.proofs.InsertedRows.{snapshot_added, at_place}
use Rattle.zst_dir.specs.Spelling.{dir_bytes}
use Rattle.zst_dir.proofs.Lengths.{snapshot_grows}
use Rattle.zst_dir.proofs.dir.Dir.add_snapshot.Goals as goal

pub insert-requires : goal.insert-requires
insert-requires c =
    omega (arith, c.place_of_snapshot-place.ensures, position_or_len-le (snapshot_is_before c.args.snapshot) c.as_slice.result.now, c.as_slice.ensures.len)

pub invariant_of-self-2 : goal.invariant_of-self-2
invariant_of-self-2 c =
    let row = c.args.snapshot in
    let olds : List Snapshot = c.self.inside.snapshots.items in
    let rows : Rows = record { datasets = c.self.inside.datasets.items; snapshots = olds; bookmarks = c.self.inside.bookmarks.items; partials = c.self.inside.partials.items } in
    let new : HasSnapshot rows row.name → ⊥ = subst (λ (r : Rows). HasSnapshot r row.name → ⊥) (sym c.self.view_is) c.requires.new in
    let dataset : HasDataset rows (dataset_of 64 row.name) = subst (λ (r : Rows). HasDataset r (dataset_of 64 row.name)) (sym c.self.view_is) c.requires.dataset in
    let component : All (λ partial. partial.target ++ 64 ∷ partial.snapshot ≢ row.name) rows.partials =
    subst (λ (r : Rows). All (λ partial. partial.target ++ 64 ∷ partial.snapshot ≢ row.name) r.partials) (sym c.self.view_is) c.requires.component in
    let here : c.insert.new.self.items ≡ inserted snapshot_is_before row olds =
    at_place snapshot_is_before row olds _ _ _ c.as_slice.ensures.value c.place_of_snapshot-place.ensures c.in_ok-insert.ensures.items in
    subst (λ (l : List Snapshot). IsLawful (record rows { snapshots = l })) (sym here) (snapshot_added rows row c.self.invariant c.requires.row new dataset component)

pub returns-clause-added : goal.returns-clause-added
returns-clause-added c =
    let row = c.args.snapshot in
    let olds : List Snapshot = c.self.inside.snapshots.items in
    let rows : Rows = record { datasets = c.self.inside.datasets.items; snapshots = olds; bookmarks = c.self.inside.bookmarks.items; partials = c.self.inside.partials.items } in
    let here : c.insert.new.self.items ≡ inserted snapshot_is_before row olds =
    at_place snapshot_is_before row olds _ _ _ c.as_slice.ensures.value c.place_of_snapshot-place.ensures c.in_ok-insert.ensures.items in
    ap (λ (l : List Snapshot). record rows { snapshots = l }) here ∙ ap (λ (r : Rows). record r { snapshots = inserted snapshot_is_before row r.snapshots }) c.self.view_is

pub returns-clause-grows : goal.returns-clause-grows
returns-clause-grows c =
    let row = c.args.snapshot in
    let olds : List Snapshot = c.self.inside.snapshots.items in
    let rows : Rows = record { datasets = c.self.inside.datasets.items; snapshots = olds; bookmarks = c.self.inside.bookmarks.items; partials = c.self.inside.partials.items } in
    let new : HasSnapshot rows row.name → ⊥ = subst (λ (r : Rows). HasSnapshot r row.name → ⊥) (sym c.self.view_is) c.requires.new in
    let dataset : HasDataset rows (dataset_of 64 row.name) = subst (λ (r : Rows). HasDataset r (dataset_of 64 row.name)) (sym c.self.view_is) c.requires.dataset in
    let component : All (λ partial. partial.target ++ 64 ∷ partial.snapshot ≢ row.name) rows.partials =
    subst (λ (r : Rows). All (λ partial. partial.target ++ 64 ∷ partial.snapshot ≢ row.name) r.partials) (sym c.self.view_is) c.requires.component in
    let here : c.insert.new.self.items ≡ inserted snapshot_is_before row olds =
    at_place snapshot_is_before row olds _ _ _ c.as_slice.ensures.value c.place_of_snapshot-place.ensures c.in_ok-insert.ensures.items in
    omega (
      arith,
      ap (λ (l : List Snapshot). length (dir_bytes (record rows { snapshots = l }))) here,
      snapshot_grows rows row c.requires.row c.self.invariant (snapshot_added rows row c.self.invariant c.requires.row new dataset component),
      ap (λ (r : Rows). length (dir_bytes r)) c.self.view_is,
    )
