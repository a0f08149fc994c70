use Rattle.std.proofs.Common.{◌≡◌, List, length, IfSome, sym, ap, ◌∙◌, subst, arith}
use Rattle.zst_model.specs.pools.Pool.{is_before, inserted}
use Rattle.zst_dir.specs.Rows.{Rows, HasDataset, HasSnapshot, IsLawful}
use Rattle.zst_dir.specs.declared.rows.Dataset.{Dataset}
use Rattle.zst_dir.proofs.Places.{position_or_len-le}
use Rattle.zst_dir.proofs.InsertedRows.{dataset_added, at_place}
use Rattle.zst_dir.specs.Spelling.{dir_bytes}
use Rattle.zst_dir.proofs.Lengths.{dataset_grows}
use Rattle.zst_dir.proofs.dir.Dir.add_dataset.Goals as goal

pub insert-requires : goal.insert-requires
insert-requires c =
    omega (arith, c.place_of_dataset-place.ensures, position_or_len-le (λ (other : Dataset). is_before c.args.dataset.name other.name) c.as_slice.result.now, c.as_slice.ensures.len)

pub invariant_of-self-2 : goal.invariant_of-self-2
invariant_of-self-2 c =
    let by_name = λ (a b : Dataset). is_before a.name b.name in
    let olds : List Dataset = c.self.inside.datasets.items in
    let rows : Rows = record { datasets = olds; snapshots = c.self.inside.snapshots.items; bookmarks = c.self.inside.bookmarks.items; partials = c.self.inside.partials.items } in
    let new : HasDataset rows c.args.dataset.name → ⊥ = subst (λ (r : Rows). HasDataset r c.args.dataset.name → ⊥) (sym c.self.view_is) c.requires.new in
    let origin : IfSome c.args.dataset.origin (HasSnapshot rows) = subst (λ (r : Rows). IfSome c.args.dataset.origin (HasSnapshot r)) (sym c.self.view_is) c.requires.origin in
    let here : c.insert.new.self.items ≡ inserted by_name c.args.dataset olds =
    at_place by_name c.args.dataset olds _ _ _ c.as_slice.ensures.value c.place_of_dataset-place.ensures c.in_ok-insert.ensures.items in
    subst (λ (l : List Dataset). IsLawful (record rows { datasets = l })) (sym here) (dataset_added rows c.args.dataset c.self.invariant c.requires.row new origin)

pub returns-clause-added : goal.returns-clause-added
returns-clause-added c =
    let by_name = λ (a b : Dataset). is_before a.name b.name in
    let olds : List Dataset = c.self.inside.datasets.items in
    let rows : Rows = record { datasets = olds; snapshots = c.self.inside.snapshots.items; bookmarks = c.self.inside.bookmarks.items; partials = c.self.inside.partials.items } in
    let here : c.insert.new.self.items ≡ inserted by_name c.args.dataset olds =
    at_place by_name c.args.dataset olds _ _ _ c.as_slice.ensures.value c.place_of_dataset-place.ensures c.in_ok-insert.ensures.items in
    ap (λ (l : List Dataset). record rows { datasets = l }) here ∙ ap (λ (r : Rows). record r { datasets = inserted by_name c.args.dataset r.datasets }) c.self.view_is

pub returns-clause-grows : goal.returns-clause-grows
returns-clause-grows c =
    let by_name = λ (a b : Dataset). is_before a.name b.name in
    let olds : List Dataset = c.self.inside.datasets.items in
    let rows : Rows = record { datasets = olds; snapshots = c.self.inside.snapshots.items; bookmarks = c.self.inside.bookmarks.items; partials = c.self.inside.partials.items } in
    let new : HasDataset rows c.args.dataset.name → ⊥ = subst (λ (r : Rows). HasDataset r c.args.dataset.name → ⊥) (sym c.self.view_is) c.requires.new in
    let origin : IfSome c.args.dataset.origin (HasSnapshot rows) = subst (λ (r : Rows). IfSome c.args.dataset.origin (HasSnapshot r)) (sym c.self.view_is) c.requires.origin in
    let here : c.insert.new.self.items ≡ inserted by_name c.args.dataset olds =
    at_place by_name c.args.dataset olds _ _ _ c.as_slice.ensures.value c.place_of_dataset-place.ensures c.in_ok-insert.ensures.items in
    omega (
      arith,
      ap (λ (l : List Dataset). length (dir_bytes (record rows { datasets = l }))) here,
      dataset_grows rows c.args.dataset c.requires.row c.self.invariant (dataset_added rows c.args.dataset c.self.invariant c.requires.row new origin),
      ap (λ (r : Rows). length (dir_bytes r)) c.self.view_is,
    )
