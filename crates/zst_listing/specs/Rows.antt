-- The lines of the rows of a directory.
use Rattle.std.specs.Prelude.{ℕ, List, [], ◌∷◌, ◌++◌, length, map, filter, codes, bytes_eq}
use Rattle.std.specs.List.{concat}
use Rattle.zst_names.specs.Names.{dataset_of}
use Rattle.zst_model.specs.refusals.Texts.{guid_text}
use Rattle.zst_model.specs.pools.AnswerLines.{word, kind_word, name_or_none}
use Rattle.zst_dir.specs.Rows.{Rows}
use Rattle.zst_dir.specs.declared.rows.Dataset.{Dataset}
use Rattle.zst_dir.specs.declared.rows.Snapshot.{Snapshot}
use Rattle.zst_dir.specs.declared.rows.Bookmark.{Bookmark}
use Rattle.zst_dir.specs.declared.rows.Partial.{Partial}

-- the line of a row
abbrev pub dataset_line : Dataset → List ℕ
dataset_line row = concat (kind_word row.kind ∷ codes " " ∷ row.name ∷ codes " origin " ∷ name_or_none row.origin ∷ [])

abbrev pub snapshot_line : Snapshot → List ℕ
snapshot_line row = concat (
    codes "snapshot " ∷ row.name ∷ codes " guid " ∷ guid_text row.guid
    ∷ codes " time" ∷ word row.time ∷ codes " number" ∷ word row.number ∷ codes " redacted" ∷ word (length row.redact) ∷ [])

abbrev pub bookmark_line : Bookmark → List ℕ
bookmark_line row = concat (
    codes "bookmark " ∷ row.name ∷ codes " guid " ∷ guid_text row.guid
    ∷ codes " number" ∷ word row.number ∷ codes " redacted" ∷ word (length row.redact) ∷ codes " runs" ∷ word row.runs ∷ [])

abbrev pub partial_line : Partial → List ℕ
partial_line row = concat (
    codes "partial " ∷ row.target ∷ codes " guid " ∷ guid_text row.header.to
    ∷ codes " point" ∷ word row.point.object ∷ word row.point.offset ∷ [])

-- the rows of a name: its dataset, the snapshots and the bookmarks of that dataset, and its partial state
abbrev pub datasets_of : List ℕ → List Dataset → List Dataset
datasets_of name rows = filter (λ row. bytes_eq row.name name) rows

abbrev pub snapshots_of : List ℕ → List Snapshot → List Snapshot
snapshots_of name rows = filter (λ row. bytes_eq (dataset_of 64 row.name) name) rows

abbrev pub bookmarks_of : List ℕ → List Bookmark → List Bookmark
bookmarks_of name rows = filter (λ row. bytes_eq (dataset_of 35 row.name) name) rows

abbrev pub partials_of : List ℕ → List Partial → List Partial
partials_of name rows = filter (λ row. bytes_eq row.target name) rows

-- the lines of a name
unfoldable pub lines_of : Rows → List ℕ → List (List ℕ)
lines_of rows name =
    map dataset_line (datasets_of name rows.datasets)
    ++ (map snapshot_line (snapshots_of name rows.snapshots)
    ++ (map bookmark_line (bookmarks_of name rows.bookmarks)
    ++ map partial_line (partials_of name rows.partials)))
