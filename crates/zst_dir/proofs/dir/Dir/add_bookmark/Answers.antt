use Rattle.std.proofs.Common.{◌≡◌, ◌≢◌, List, length, sym, ap, ◌∙◌, subst, arith}
use Rattle.std.specs.List.{All}
use Rattle.zst_model.specs.pools.Pool.{is_before, inserted}
use Rattle.zst_dir.specs.Rows.{Rows, IsLawful}
use Rattle.zst_dir.specs.declared.rows.Bookmark.{Bookmark}
use Rattle.zst_dir.specs.Spelling.{dir_bytes}
use Rattle.zst_dir.proofs.Places.{position_or_len-le}
use Rattle.zst_dir.proofs.InsertedRows.{bookmark_added, at_place}
use Rattle.zst_dir.proofs.Lengths.{bookmark_grows}
use Rattle.zst_dir.proofs.dir.Dir.add_bookmark.Goals as goal

pub insert-requires : goal.insert-requires
insert-requires c =
    omega (arith, c.place_of_bookmark-place.ensures, position_or_len-le (λ (other : Bookmark). is_before c.args.bookmark.name other.name) c.as_slice.result.now, c.as_slice.ensures.len)

pub invariant_of-self-2 : goal.invariant_of-self-2
invariant_of-self-2 c =
    let by_name = λ (a b : Bookmark). is_before a.name b.name in
    let row = c.args.bookmark in
    let olds : List Bookmark = c.self.inside.bookmarks.items in
    let rows : Rows = record { datasets = c.self.inside.datasets.items; snapshots = c.self.inside.snapshots.items; bookmarks = olds; partials = c.self.inside.partials.items } in
    let here : c.insert.new.self.items ≡ inserted by_name row olds =
    at_place by_name row olds _ _ _ c.as_slice.ensures.value c.place_of_bookmark-place.ensures c.in_ok-insert.ensures.items in
    let new : All (λ (other : Bookmark). other.name ≢ row.name) rows.bookmarks =
    subst (λ (r : Rows). All (λ (other : Bookmark). other.name ≢ row.name) r.bookmarks) (sym c.self.view_is) c.requires.new in
    subst (λ (l : List Bookmark). IsLawful (record rows { bookmarks = l })) (sym here) (bookmark_added rows row c.self.invariant c.requires.row new)

pub returns-clause-added : goal.returns-clause-added
returns-clause-added c =
    let by_name = λ (a b : Bookmark). is_before a.name b.name in
    let row = c.args.bookmark in
    let olds : List Bookmark = c.self.inside.bookmarks.items in
    let rows : Rows = record { datasets = c.self.inside.datasets.items; snapshots = c.self.inside.snapshots.items; bookmarks = olds; partials = c.self.inside.partials.items } in
    let here : c.insert.new.self.items ≡ inserted by_name row olds =
    at_place by_name row olds _ _ _ c.as_slice.ensures.value c.place_of_bookmark-place.ensures c.in_ok-insert.ensures.items in
    ap (λ (l : List Bookmark). record rows { bookmarks = l }) here ∙ ap (λ (r : Rows). record r { bookmarks = inserted by_name row r.bookmarks }) c.self.view_is

pub returns-clause-grows : goal.returns-clause-grows
returns-clause-grows c =
    let by_name = λ (a b : Bookmark). is_before a.name b.name in
    let row = c.args.bookmark in
    let olds : List Bookmark = c.self.inside.bookmarks.items in
    let rows : Rows = record { datasets = c.self.inside.datasets.items; snapshots = c.self.inside.snapshots.items; bookmarks = olds; partials = c.self.inside.partials.items } in
    let here : c.insert.new.self.items ≡ inserted by_name row olds =
    at_place by_name row olds _ _ _ c.as_slice.ensures.value c.place_of_bookmark-place.ensures c.in_ok-insert.ensures.items in
    omega (
      arith,
      ap (λ (l : List Bookmark). length (dir_bytes (record rows { bookmarks = l }))) here,
      bookmark_grows rows row c.requires.row,
      ap (λ (r : Rows). length (dir_bytes r)) c.self.view_is,
    )
