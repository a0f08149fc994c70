-- The kind of name that a word is read as, and where it stops being one.
use Rattle.std.specs.Prelude.{◌≡◌, ℕ, Bool, true, ◌==◌, if◌then◌else◌, List}
use Rattle.std.specs.List.{list_any}
use Rattle.zst_names.specs.Names.{IsDataset, IsSnapshot, IsBookmark, StopsAt}
use Rattle.zst_line.specs.declared.name_kinds.NameKind.{NameKind}
use Rattle.zst_line.specs.declared.name_kinds.NameKind.TheVariants as kinds
use Rattle.zst_line.specs.declared.name_kinds.Names.{Names}
use Rattle.zst_line.specs.Words.{IsOption}

-- whether a word has a byte
abbrev pub has : ℕ → List ℕ → Bool
has mark word = list_any (λ byte. byte == mark) word

-- `@` makes a word the name of a snapshot, and `#` without it that of a bookmark
abbrev pub kind_of_name : List ℕ → NameKind
kind_of_name word = if has 64 word then kinds.Snapshot else (if has 35 word then kinds.Bookmark else kinds.Dataset)

-- whether a place takes names of a kind
abbrev pub takes : Names → NameKind → Bool
takes names kinds.Dataset = names.datasets
takes names kinds.Snapshot = names.snapshots
takes names kinds.Bookmark = names.bookmarks

-- a word that is read as a name that the place takes; whether it is one is judged after all places
abbrev pub FitsName : Names → List ℕ → Type 0
FitsName names word = ¬ (IsOption word) × (takes names (kind_of_name word) ≡ true)

-- the names of a kind
abbrev pub IsNameOf : NameKind → List ℕ → Type 0
IsNameOf kinds.Dataset word = IsDataset word
IsNameOf kinds.Snapshot word = IsSnapshot word
IsNameOf kinds.Bookmark word = IsBookmark word

-- a word is a name of the kind that it is read as
abbrev pub IsNamed : List ℕ → Type 0
IsNamed word = IsNameOf (kind_of_name word) word

-- where a word stops being a name of the kind that it is read as
abbrev pub NamedStops : List ℕ → ℕ → Type 0
NamedStops word at = StopsAt (IsNameOf (kind_of_name word)) word at
