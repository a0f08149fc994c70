-- The bytes of rows, by their parts.
use Rattle.std.proofs.Common.{◌≡◌, ℕ, List, ◌++◌, append_assoc}
use Rattle.zst_bytes.specs.Words.{word, text_bytes, words_bytes}
use Rattle.zst_block.specs.Ptr.{ptr_bytes}
use Rattle.zst_model.specs.declared.sends.header.Header.{Header}
use Rattle.zst_names.specs.Names.{component_of}
use Rattle.zst_tree.specs.Sets.{set_bytes}
use Rattle.zst_dir.specs.declared.rows.Dataset.{Dataset}
use Rattle.zst_dir.specs.declared.rows.Snapshot.{Snapshot}
use Rattle.zst_dir.specs.declared.rows.Bookmark.{Bookmark}
use Rattle.zst_dir.specs.declared.rows.Partial.{Partial}
use Rattle.zst_dir.specs.RowReads.{dataset_front}
use Rattle.zst_dir.specs.Spelling.{name_bytes, flag, snapshot_bytes, snapshots_of, rows_bytes, dataset_bytes, bookmark_bytes, header_bytes, partial_bytes}

pub snapshot_parts : (snapshot : Snapshot) (rest : List ℕ) → snapshot_bytes snapshot ++ rest ≡
    text_bytes (component_of 64 snapshot.name) ++ (word snapshot.guid ++ (word snapshot.time ++ (word snapshot.number
    ++ (set_bytes snapshot.objects ++ (words_bytes snapshot.redact ++ rest)))))
unfolding snapshot_bytes
snapshot_parts snapshot rest = simp append_assoc

pub bookmark_parts : (bookmark : Bookmark) (rest : List ℕ) → bookmark_bytes bookmark ++ rest ≡
    text_bytes bookmark.name ++ (word bookmark.guid ++ (word bookmark.time ++ (word bookmark.number ++ (words_bytes bookmark.redact
    ++ (word bookmark.runs ++ (word bookmark.levels ++ (ptr_bytes bookmark.root ++ rest)))))))
unfolding bookmark_bytes
bookmark_parts bookmark rest = simp append_assoc

pub header_parts : (header : Header) (rest : List ℕ) → header_bytes header ++ rest ≡
    word header.kind ++ (word header.flags ++ (word header.features ++ (word header.time ++ (word header.to ++ (word header.from
    ++ (text_bytes header.name ++ (words_bytes header.redact ++ (words_bytes header.from_redact ++ rest))))))))
unfolding header_bytes
header_parts header rest = simp append_assoc

pub front_parts : (dataset : Dataset) (rest : List ℕ) → dataset_front dataset ++ rest ≡
    text_bytes dataset.name ++ (word dataset.kind ++ (name_bytes dataset.origin ++ (set_bytes dataset.head ++ (words_bytes dataset.redact ++ rest))))
unfolding dataset_front
front_parts dataset rest = simp append_assoc

pub dataset_parts : (snapshots : List Snapshot) (dataset : Dataset) (rest : List ℕ) → dataset_bytes snapshots dataset ++ rest ≡
    dataset_front dataset ++ (rows_bytes snapshot_bytes (snapshots_of dataset.name snapshots) ++ rest)
unfolding dataset_bytes dataset_front
dataset_parts snapshots dataset rest = simp append_assoc

pub partial_parts : (partial : Partial) (rest : List ℕ) → partial_bytes partial ++ rest ≡
    text_bytes partial.target ++ (text_bytes partial.snapshot ++ (word (flag partial.keep) ++ (header_bytes partial.header
    ++ (name_bytes partial.base ++ (set_bytes partial.objects ++ (word partial.point.object ++ (word partial.point.offset ++ rest)))))))
unfolding partial_bytes
partial_parts partial rest = simp append_assoc
