use Rattle.std.proofs.Common.{◌≡◌, ◌≢◌, List, ◌∷◌, ◌++◌, length, IfSome, sym, ap, ◌∙◌, subst, arith}
use Rattle.std.specs.List.{All}
use Rattle.zst_model.specs.pools.Pool.{is_before}
use Rattle.zst_dir.specs.Rows.{Rows, HasSnapshot, IsLawful, with_partial}
use Rattle.zst_dir.specs.declared.rows.Partial.{Partial}
use Rattle.zst_dir.specs.Spelling.{dir_bytes}
use Rattle.zst_dir.proofs.Places.{position_or_len-le}
use Rattle.zst_dir.proofs.InsertedRows.{partial_added, at_place}
use Rattle.zst_dir.proofs.Lengths.{partial_grows}
use Rattle.zst_dir.proofs.dir.Dir.add_partial.Goals as goal

pub insert-requires : goal.insert-requires
insert-requires c =
    omega (arith, c.place_of_partial-place.ensures, position_or_len-le (λ (other : Partial). is_before c.args.partial.target other.target) c.as_slice.result.now, c.as_slice.ensures.len)

pub invariant_of-self-2 : goal.invariant_of-self-2
invariant_of-self-2 c =
    let row = c.args.partial in
    let olds : List Partial = c.self.inside.partials.items in
    let rows : Rows = record { datasets = c.self.inside.datasets.items; snapshots = c.self.inside.snapshots.items; bookmarks = c.self.inside.bookmarks.items; partials = olds } in
    let here : c.insert.new.self.items ≡ with_partial row olds =
    at_place (λ (a b : Partial). is_before a.target b.target) row olds _ _ _ c.as_slice.ensures.value c.place_of_partial-place.ensures c.in_ok-insert.ensures.items in
    let new : All (λ (other : Partial). other.target ≢ row.target) rows.partials =
    subst (λ (r : Rows). All (λ (other : Partial). other.target ≢ row.target) r.partials) (sym c.self.view_is) c.requires.new in
    let base : IfSome row.base (HasSnapshot rows) = subst (λ (r : Rows). IfSome row.base (HasSnapshot r)) (sym c.self.view_is) c.requires.base in
    let component : HasSnapshot rows (row.target ++ 64 ∷ row.snapshot) → ⊥ =
    subst (λ (r : Rows). HasSnapshot r (row.target ++ 64 ∷ row.snapshot) → ⊥) (sym c.self.view_is) c.requires.component in
    subst (λ (l : List Partial). IsLawful (record rows { partials = l })) (sym here) (partial_added rows row c.self.invariant c.requires.row new base component)

pub returns-clause-added : goal.returns-clause-added
returns-clause-added c =
    let row = c.args.partial in
    let olds : List Partial = c.self.inside.partials.items in
    let rows : Rows = record { datasets = c.self.inside.datasets.items; snapshots = c.self.inside.snapshots.items; bookmarks = c.self.inside.bookmarks.items; partials = olds } in
    let here : c.insert.new.self.items ≡ with_partial row olds =
    at_place (λ (a b : Partial). is_before a.target b.target) row olds _ _ _ c.as_slice.ensures.value c.place_of_partial-place.ensures c.in_ok-insert.ensures.items in
    ap (λ (l : List Partial). record rows { partials = l }) here ∙ ap (λ (r : Rows). record r { partials = with_partial row r.partials }) c.self.view_is

pub returns-clause-grows : goal.returns-clause-grows
returns-clause-grows c =
    let row = c.args.partial in
    let olds : List Partial = c.self.inside.partials.items in
    let rows : Rows = record { datasets = c.self.inside.datasets.items; snapshots = c.self.inside.snapshots.items; bookmarks = c.self.inside.bookmarks.items; partials = olds } in
    let here : c.insert.new.self.items ≡ with_partial row olds =
    at_place (λ (a b : Partial). is_before a.target b.target) row olds _ _ _ c.as_slice.ensures.value c.place_of_partial-place.ensures c.in_ok-insert.ensures.items in
    omega (
      arith,
      ap (λ (l : List Partial). length (dir_bytes (record rows { partials = l }))) here,
      partial_grows rows row c.requires.row,
      ap (λ (r : Rows). length (dir_bytes r)) c.self.view_is,
    )
