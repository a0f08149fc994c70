-- The lines that commands answer.
use Rattle.std.specs.Prelude.{ℕ, pred, ◌==◌, if◌then◌else◌, List, [], ◌∷◌, ◌++◌, length, flat_map, map, filter, codes, decimal, Option, Some, None, is_some, bytes_eq, not}
use Rattle.std.specs.List.{concat}
use Rattle.hex.specs.Hex.{encode_lower}
use Rattle.zst_model.specs.refusals.Texts.{guid_text}
use Rattle.zst_model.specs.states.State.{Object, end_of, number_bound}
use Rattle.zst_model.specs.sends.Items.{rising}
use Rattle.zst_model.specs.states.DatedState.{DatedState}
use Rattle.zst_model.specs.pools.Pool.{Pool, Dataset, Snapshot, Bookmark, Partial, dataset_of_snapshot, dataset_of_bookmark, dataset_named, partial_of, is_before, inserted}

-- a number as a word after a blank
abbrev pub word : ℕ → List ℕ
word number = codes " " ++ decimal number

-- the answer of a command that committed: the pool's number afterwards
abbrev pub ok_line : ℕ → List ℕ
ok_line number = codes "ok" ++ word number

-- the word for a kind
abbrev pub kind_word : ℕ → List ℕ
kind_word kind = if kind == 2 then codes "fs" else codes "volume"

-- the name, or none
abbrev pub name_or_none : Option (List ℕ) → List ℕ
name_or_none None = codes "none"
name_or_none (Some name) = name

abbrev pub dataset_line : Dataset → List ℕ
dataset_line dataset = concat (kind_word dataset.kind ∷ codes " " ∷ dataset.name ∷ codes " origin " ∷ name_or_none dataset.origin ∷ [])

abbrev pub snapshot_line : Snapshot → List ℕ
snapshot_line snapshot = concat (
    codes "snapshot " ∷ snapshot.name ∷ codes " guid " ∷ guid_text snapshot.guid
    ∷ codes " time" ∷ word snapshot.time ∷ codes " number" ∷ word snapshot.number ∷ codes " redacted" ∷ word (length snapshot.redact) ∷ [])

abbrev pub bookmark_line : Bookmark → List ℕ
bookmark_line bookmark = concat (
    codes "bookmark " ∷ bookmark.name ∷ codes " guid " ∷ guid_text bookmark.guid
    ∷ codes " number" ∷ word bookmark.number ∷ codes " redacted" ∷ word (length bookmark.redact) ∷ codes " runs" ∷ word (length bookmark.runs) ∷ [])

abbrev pub partial_line : Partial → List ℕ
partial_line partial = concat (
    codes "partial " ∷ partial.target ∷ codes " guid " ∷ guid_text partial.header.to
    ∷ codes " point" ∷ word partial.point.object ∷ word partial.point.offset ∷ [])

-- one line of what there is, or none
abbrev pub line_of : {A : Type 0} → (A → List ℕ) → Option A → List (List ℕ)
line_of line None = []
line_of line (Some row) = line row ∷ []

-- the names that are listed: those of datasets, and of targets that are no dataset yet
abbrev pub with_targets : List Partial → List (List ℕ) → List (List ℕ)
with_targets [] names = names
with_targets (partial ∷ rest) names = inserted is_before partial.target (with_targets rest names)

abbrev pub listed_names : Pool → List (List ℕ)
listed_names pool = with_targets (filter (λ partial. not (is_some (dataset_named partial.target pool))) pool.partials) (map (λ dataset. dataset.name) pool.datasets)

-- the lines of a name: its dataset, its snapshots by number, its bookmarks by name, and its partial state
abbrev pub lines_of : Pool → List ℕ → List (List ℕ)
lines_of pool name =
    line_of dataset_line (dataset_named name pool)
    ++ (map snapshot_line (filter (λ snapshot. bytes_eq (dataset_of_snapshot snapshot) name) pool.snapshots)
    ++ (map bookmark_line (filter (λ bookmark. bytes_eq (dataset_of_bookmark bookmark) name) pool.bookmarks)
    ++ line_of partial_line (partial_of name pool)))

-- the lines of a pool, by name
unfoldable pub pool_lines : Pool → List (List ℕ)
pool_lines pool = flat_map (lines_of pool) (listed_names pool)

-- the length of a spill block, or none
abbrev pub spill_word : Option (List ℕ) → List ℕ
spill_word None = codes " none"
spill_word (Some spill) = word (length spill)

-- the line of an object
abbrev pub object_line : ℕ → Object → List ℕ
object_line k object = concat (
    codes "object" ∷ word k ∷ codes " type" ∷ word object.attr.type_ ∷ codes " size" ∷ word object.attr.block_size
    ∷ codes " bonustype" ∷ word object.attr.bonus_type ∷ codes " bonus" ∷ word (length object.attr.bonus)
    ∷ codes " spill" ∷ spill_word object.attr.spill ∷ codes " end" ∷ word (end_of object) ∷ [])

-- the lines of the objects of a state, by rising number
unfoldable pub object_lines : DatedState → List (List ℕ)
object_lines snap = flat_map (λ k. line_of (object_line k) (snap.state k)) (rising 1 (pred number_bound))

-- the line of a block that was read
abbrev pub data_line : List ℕ → List ℕ
data_line bytes = codes "data " ++ encode_lower bytes
