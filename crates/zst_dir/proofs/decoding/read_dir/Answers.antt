use Rattle.std.proofs.Common.{◌++◌, [], length, ◌<◌, ◌^◌, Some, arith, sym, subst, ap, ◌∙◌}
use Rattle.std.proofs.lemmas.Bool.{true≢false}
use Rattle.zst_dir.specs.RowReads.{IsSnapshotIn}
use Rattle.zst_dir.specs.Rows.{IsDatasetRow, IsBookmarkRow, IsPartialRow, IsLawful}
use Rattle.zst_dir.specs.Spelling.{rows_bytes, bookmark_bytes, partial_bytes}
use Rattle.zst_dir.proofs.Sections.{sections, all_of_none, datasets_read, list_read, rows_are}
use Rattle.zst_dir.proofs.decoding.read_dir.Goals as goal

pub is_lawful-requires : goal.is_lawful-requires
is_lawful-requires c =
    rw (c.deref.ensures.value, c.deref-2.ensures.value, c.deref-3.ensures.value, c.deref-4.ensures.value) (record {
      datasets = all_of_none IsDatasetRow c.new-datasets.result.items c.read_datasets.new.datasets.items c.new-datasets.ensures.items (rw c.if-not-branch.false at c.in_ok-read_datasets.ensures.rows);
      snapshots = all_of_none (IsSnapshotIn c.read_datasets.new.datasets.items) c.new-snapshots.result.items c.read_datasets.new.snapshots.items c.new-snapshots.ensures.items (rw c.if-not-branch.false at c.in_ok-read_datasets.ensures.snapshots);
      bookmarks = all_of_none IsBookmarkRow c.new-bookmarks.result.items c.read_bookmarks.new.bookmarks.items c.new-bookmarks.ensures.items (rw c.if-not-branch-2.false at c.in_ok-read_bookmarks.ensures.rows);
      partials = all_of_none IsPartialRow c.new-partials.result.items c.read_partials.new.partials.items c.new-partials.ensures.items (rw c.if-not-branch-3.false at c.in_ok-read_partials.ensures.rows);
    })

pub returns-then-not-branch : goal.returns-then-not-branch
returns-then-not-branch c = λ rows is.
    let short : length c.args.bytes.now < 2 ^ 64 = omega arith in
    let are = sections rows c.args.bytes.now short is in
    let first = datasets_read rows c.args.bytes.now c.new-cursor.result c.read_datasets.new.cursor c.new-datasets.result.items c.read_datasets.new.datasets.items c.new-snapshots.result.items c.read_datasets.new.snapshots.items
    c.in_ok-read_datasets.field-0 are c.new-cursor.ensures c.new-datasets.ensures.items c.new-snapshots.ensures.items c.in_ok-read_datasets.ensures.exact in
    absurd (true≢false (sym first.0 ∙ c.if-not-branch.true))

pub returns-then-not-branch-2 : goal.returns-then-not-branch-2
returns-then-not-branch-2 c = λ rows is.
    let short : length c.args.bytes.now < 2 ^ 64 = omega arith in
    let are = sections rows c.args.bytes.now short is in
    let first = datasets_read rows c.args.bytes.now c.new-cursor.result c.read_datasets.new.cursor c.new-datasets.result.items c.read_datasets.new.datasets.items c.new-snapshots.result.items c.read_datasets.new.snapshots.items
    c.in_ok-read_datasets.field-0 are c.new-cursor.ensures c.new-datasets.ensures.items c.new-snapshots.ensures.items c.in_ok-read_datasets.ensures.exact in
    let second = list_read bookmark_bytes IsBookmarkRow rows.bookmarks c.new-bookmarks.result.items c.read_bookmarks.new.bookmarks.items c.read_datasets.new.cursor (rows_bytes partial_bytes rows.partials ++ []) c.read_bookmarks.new.cursor
    c.in_ok-read_bookmarks.field-0 are.bookmarks first.3 c.new-bookmarks.ensures.items c.in_ok-read_bookmarks.ensures.exact in
    absurd (true≢false (sym second.0 ∙ c.if-not-branch-2.true))

pub returns-then-not-branch-3 : goal.returns-then-not-branch-3
returns-then-not-branch-3 c = λ rows is.
    let short : length c.args.bytes.now < 2 ^ 64 = omega arith in
    let are = sections rows c.args.bytes.now short is in
    let first = datasets_read rows c.args.bytes.now c.new-cursor.result c.read_datasets.new.cursor c.new-datasets.result.items c.read_datasets.new.datasets.items c.new-snapshots.result.items c.read_datasets.new.snapshots.items
    c.in_ok-read_datasets.field-0 are c.new-cursor.ensures c.new-datasets.ensures.items c.new-snapshots.ensures.items c.in_ok-read_datasets.ensures.exact in
    let second = list_read bookmark_bytes IsBookmarkRow rows.bookmarks c.new-bookmarks.result.items c.read_bookmarks.new.bookmarks.items c.read_datasets.new.cursor (rows_bytes partial_bytes rows.partials ++ []) c.read_bookmarks.new.cursor
    c.in_ok-read_bookmarks.field-0 are.bookmarks first.3 c.new-bookmarks.ensures.items c.in_ok-read_bookmarks.ensures.exact in
    let third = list_read partial_bytes IsPartialRow rows.partials c.new-partials.result.items c.read_partials.new.partials.items c.read_bookmarks.new.cursor [] c.read_partials.new.cursor
    c.in_ok-read_partials.field-0 are.partials second.2 c.new-partials.ensures.items c.in_ok-read_partials.ensures.exact in
    absurd (true≢false (sym third.0 ∙ c.if-not-branch-3.true))

pub returns-then-not-branch-4 : goal.returns-then-not-branch-4
returns-then-not-branch-4 c = λ rows is.
    let short : length c.args.bytes.now < 2 ^ 64 = omega arith in
    let are = sections rows c.args.bytes.now short is in
    let first = datasets_read rows c.args.bytes.now c.new-cursor.result c.read_datasets.new.cursor c.new-datasets.result.items c.read_datasets.new.datasets.items c.new-snapshots.result.items c.read_datasets.new.snapshots.items
    c.in_ok-read_datasets.field-0 are c.new-cursor.ensures c.new-datasets.ensures.items c.new-snapshots.ensures.items c.in_ok-read_datasets.ensures.exact in
    let second = list_read bookmark_bytes IsBookmarkRow rows.bookmarks c.new-bookmarks.result.items c.read_bookmarks.new.bookmarks.items c.read_datasets.new.cursor (rows_bytes partial_bytes rows.partials ++ []) c.read_bookmarks.new.cursor
    c.in_ok-read_bookmarks.field-0 are.bookmarks first.3 c.new-bookmarks.ensures.items c.in_ok-read_bookmarks.ensures.exact in
    let third = list_read partial_bytes IsPartialRow rows.partials c.new-partials.result.items c.read_partials.new.partials.items c.read_bookmarks.new.cursor [] c.read_partials.new.cursor
    c.in_ok-read_partials.field-0 are.partials second.2 c.new-partials.ensures.items c.in_ok-read_partials.ensures.exact in
    let same = rows_are rows c.deref.result.now c.deref-2.result.now c.deref-3.result.now c.deref-4.result.now
    (c.deref.ensures.value ∙ first.1) (c.deref-2.ensures.value ∙ first.2) (c.deref-3.ensures.value ∙ second.1) (c.deref-4.ensures.value ∙ third.1) in
    absurd (true≢false (sym (c.in_ok-is_lawful.ensures.1 (subst IsLawful (sym same) is.lawful)) ∙ c.if-not-branch-4.true))

pub returns : goal.returns
returns c = λ rows is.
    let short : length c.args.bytes.now < 2 ^ 64 = omega arith in
    let are = sections rows c.args.bytes.now short is in
    let first = datasets_read rows c.args.bytes.now c.new-cursor.result c.read_datasets.new.cursor c.new-datasets.result.items c.read_datasets.new.datasets.items c.new-snapshots.result.items c.read_datasets.new.snapshots.items
    c.in_ok-read_datasets.field-0 are c.new-cursor.ensures c.new-datasets.ensures.items c.new-snapshots.ensures.items c.in_ok-read_datasets.ensures.exact in
    let second = list_read bookmark_bytes IsBookmarkRow rows.bookmarks c.new-bookmarks.result.items c.read_bookmarks.new.bookmarks.items c.read_datasets.new.cursor (rows_bytes partial_bytes rows.partials ++ []) c.read_bookmarks.new.cursor
    c.in_ok-read_bookmarks.field-0 are.bookmarks first.3 c.new-bookmarks.ensures.items c.in_ok-read_bookmarks.ensures.exact in
    let third = list_read partial_bytes IsPartialRow rows.partials c.new-partials.result.items c.read_partials.new.partials.items c.read_bookmarks.new.cursor [] c.read_partials.new.cursor
    c.in_ok-read_partials.field-0 are.partials second.2 c.new-partials.ensures.items c.in_ok-read_partials.ensures.exact in
    ap Some (rows_are rows c.read_datasets.new.datasets.items c.read_datasets.new.snapshots.items c.read_bookmarks.new.bookmarks.items c.read_partials.new.partials.items first.1 first.2 second.1 third.1)
