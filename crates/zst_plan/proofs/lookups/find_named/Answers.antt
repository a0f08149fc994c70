use Rattle.std.proofs.Common.{rules, ◌∙◌, ap, get_or, List}
use Rattle.zst_dir.specs.declared.rows.Bookmark.{Bookmark}
use Rattle.zst_dir.specs.declared.rows.Snapshot.{Snapshot}
use Rattle.zst_plan.proofs.LookupLemmas.{bookmark_source, snapshot_source}
use Rattle.zst_plan.proofs.lookups.find_named.Goals as goal

pub returns-in_ok-place-in-Snap : goal.returns-in_ok-place-in-Snap
returns-in_ok-place-in-Snap c = record {
  inside = search rules;
  found = λ pool are.
      let rows = c.args.dir.now in
      let place = c.in_ok-place-in-Snap.place in
      let row = c.index-snapshots-place.result in
      rw c.in-Snap.is
      (snapshot_source rows pool are c.in-Snap.name place (record { ref_ptr = (0, 0); now = row })
      (c.index-snapshots-place.is ∙ ap (λ (xs : List Snapshot). get_or xs place row) c.snapshots.ensures)
      (c.in_ok-place-in-Snap.ensures.finds.found pool are));
}

pub returns-in_ok-place-in-Book : goal.returns-in_ok-place-in-Book
returns-in_ok-place-in-Book c = record {
  inside = search rules;
  found = λ pool are.
      let rows = c.args.dir.now in
      let place = c.in_ok-place-in-Book.place in
      let row = c.index-bookmarks-place.result in
      rw c.in-Book.is
      (bookmark_source rows pool are c.in-Book.name place (record { ref_ptr = (0, 0); now = row })
      (c.index-bookmarks-place.is ∙ ap (λ (xs : List Bookmark). get_or xs place row) c.bookmarks.ensures)
      (c.in_ok-place-in-Book.ensures.found pool are));
}
