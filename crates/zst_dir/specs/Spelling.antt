-- The bytes of a directory.
use Rattle.std.specs.Prelude.{◌≡◌, ℕ, Bool, true, false, List, [], ◌++◌, length, flat_map, filter, Option, Some, None, bytes_eq}
use Rattle.zst_bytes.specs.Words.{word, text_bytes, words_bytes}
use Rattle.zst_block.specs.Ptr.{ptr_bytes}
use Rattle.zst_names.specs.Names.{dataset_of, component_of}
use Rattle.zst_model.specs.declared.sends.header.Header.{Header}
use Rattle.zst_tree.specs.Sets.{set_bytes}
use Rattle.zst_dir.specs.Rows.{Rows, IsLawful}
use Rattle.zst_dir.specs.declared.rows.Dataset.{Dataset}
use Rattle.zst_dir.specs.declared.rows.Snapshot.{Snapshot}
use Rattle.zst_dir.specs.declared.rows.Bookmark.{Bookmark}
use Rattle.zst_dir.specs.declared.rows.Partial.{Partial}

-- a name, or an empty text where there is none
abbrev pub name_bytes : Option (List ℕ) → List ℕ
name_bytes None = text_bytes []
name_bytes (Some name) = text_bytes name

-- a snapshot, behind its dataset: its component, and not its whole name
unfoldable pub snapshot_bytes : Snapshot → List ℕ
snapshot_bytes snapshot =
    text_bytes (component_of 64 snapshot.name) ++ (word snapshot.guid ++ (word snapshot.time ++ (word snapshot.number
    ++ (set_bytes snapshot.objects ++ words_bytes snapshot.redact))))

-- the snapshots of a dataset, in their order
abbrev pub snapshots_of : List ℕ → List Snapshot → List Snapshot
snapshots_of name snapshots = filter (λ snapshot. bytes_eq (dataset_of 64 snapshot.name) name) snapshots

-- how many rows there are, and each of them
abbrev pub rows_bytes : {A : Type 0} → (A → List ℕ) → List A → List ℕ
rows_bytes bytes rows = word (length rows) ++ flat_map bytes rows

-- a dataset, and behind it its snapshots
unfoldable pub dataset_bytes : List Snapshot → Dataset → List ℕ
dataset_bytes snapshots dataset =
    text_bytes dataset.name ++ (word dataset.kind ++ (name_bytes dataset.origin ++ (set_bytes dataset.head ++ (words_bytes dataset.redact
    ++ rows_bytes snapshot_bytes (snapshots_of dataset.name snapshots)))))

-- a bookmark
unfoldable pub bookmark_bytes : Bookmark → List ℕ
bookmark_bytes bookmark =
    text_bytes bookmark.name ++ (word bookmark.guid ++ (word bookmark.time ++ (word bookmark.number ++ (words_bytes bookmark.redact
    ++ (word bookmark.runs ++ (word bookmark.levels ++ ptr_bytes bookmark.root))))))

-- a yes or no as a number
abbrev pub flag : Bool → ℕ
flag false = 0
flag true = 1

-- a stream's header, without a resume point
unfoldable pub header_bytes : Header → List ℕ
header_bytes header =
    word header.kind ++ (word header.flags ++ (word header.features ++ (word header.time ++ (word header.to ++ (word header.from
    ++ (text_bytes header.name ++ (words_bytes header.redact ++ words_bytes header.from_redact)))))))

-- a partial state
unfoldable pub partial_bytes : Partial → List ℕ
partial_bytes partial =
    text_bytes partial.target ++ (text_bytes partial.snapshot ++ (word (flag partial.keep) ++ (header_bytes partial.header
    ++ (name_bytes partial.base ++ (set_bytes partial.objects ++ (word partial.point.object ++ word partial.point.offset))))))

-- a directory: its datasets, its bookmarks and its partial states
unfoldable pub dir_bytes : Rows → List ℕ
dir_bytes rows =
    rows_bytes (dataset_bytes rows.snapshots) rows.datasets
    ++ (rows_bytes bookmark_bytes rows.bookmarks ++ rows_bytes partial_bytes rows.partials)

-- these bytes are the directory with these rows
pub record IsDir (rows : Rows) (bytes : List ℕ) : Type 0 where
  pub lawful : IsLawful rows
  pub spelled : bytes ≡ dir_bytes rows
