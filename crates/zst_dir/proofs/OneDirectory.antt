-- Bytes are those of one directory.
use Rattle.std.proofs.Common.{◌≡◌, ℕ, ◌<◌, ◌^◌, List, [], length, sym, ◌∙◌, append_assoc}
use Rattle.std.specs.List.{flat_map}
use Rattle.zst_bytes.specs.Words.{word}
use Rattle.zst_dir.specs.Rows.{Rows, IsBookmarkRow, IsPartialRow}
use Rattle.zst_dir.specs.Spelling.{IsDir, dataset_bytes, bookmark_bytes, partial_bytes}
use Rattle.zst_dir.proofs.RowsTold.{bookmark_tells, datasets_tell, partial_tells}
use Rattle.zst_dir.proofs.Sections.{AreSections, rows_are, sections}
use Rattle.zst_dir.proofs.TellingFields.{rows_tell, word_tells}

one_of_sections : (rows others : Rows) (bytes : List ℕ) → AreSections rows bytes → AreSections others bytes → rows ≡ others
one_of_sections rows others bytes are are_others =
    let spell = flat_map (dataset_bytes rows.snapshots) rows.datasets in
    let spell_others = flat_map (dataset_bytes others.snapshots) others.datasets in
    let counts = word_tells (length rows.datasets) (length others.datasets) _ _ are.datasets.count are_others.datasets.count
    (sym (append_assoc (word (length rows.datasets)) spell _) ∙ sym are.spelled ∙ are_others.spelled ∙ append_assoc (word (length others.datasets)) spell_others _) in
    let datasets = datasets_tell rows.snapshots others.snapshots are.snapshots are_others.snapshots rows.datasets others.datasets _ _ are.datasets.each are_others.datasets.each counts.0 counts.1 in
    let bookmarks = rows_tell bookmark_bytes IsBookmarkRow bookmark_tells rows.bookmarks others.bookmarks _ _ are.bookmarks are_others.bookmarks datasets.2 in
    let partials = rows_tell partial_bytes IsPartialRow partial_tells rows.partials others.partials [] [] are.partials are_others.partials bookmarks.1 in
    let snapshots : rows.snapshots ≡ others.snapshots = sym are.under ∙ datasets.1 ∙ are_others.under in
    rows_are others rows.datasets rows.snapshots rows.bookmarks rows.partials datasets.0 snapshots bookmarks.0 partials.0

pub one_directory : (rows others : Rows) (bytes : List ℕ) → length bytes < 2 ^ 64 → IsDir rows bytes → IsDir others bytes → rows ≡ others
one_directory rows others bytes short is is_other = one_of_sections rows others bytes (sections rows bytes short is) (sections others bytes short is_other)
