-- The lines, and which words may stand where in them.
use Rattle.std.specs.Prelude.{ℕ, ◌-◌, ◌^◌, min, max, Bool, true, false, if◌then◌else◌, nat_lt, bytes_eq, Option, Some, None, List, [], ◌∷◌, ◌++◌, length, take, slice_index_or, replicate, codes}
use Rattle.std.specs.List.{list_any}
use Rattle.zst_model.specs.pools.Limits.{largest_write}
use Rattle.zst_line.specs.declared.kind.Kind.{Kind}
use Rattle.zst_line.specs.declared.kind.Kind.TheVariants as kinds
use Rattle.zst_line.specs.declared.name_kinds.Names.{Names}
use Rattle.zst_line.specs.declared.options.OptionValue.{OptionValue}
use Rattle.zst_line.specs.declared.options.OptionValue.TheVariants.{Nothing, NameOf}
use Rattle.zst_line.specs.declared.word_slot.WordSlot.{WordSlot}
use Rattle.zst_line.specs.declared.word_slot.WordSlot.TheVariants.{Image, Token, Name, Number, BlockSize, Bonus, Spill, HexBytes, Given}

-- the first word of a line
abbrev pub word_of : Kind → List ℕ
word_of kinds.Dump = codes "dump"
word_of kinds.Create = codes "create"
word_of kinds.Fs = codes "fs"
word_of kinds.Volume = codes "volume"
word_of kinds.Object = codes "object"
word_of kinds.Write = codes "write"
word_of kinds.Punch = codes "punch"
word_of kinds.Free = codes "free"
word_of kinds.Read = codes "read"
word_of kinds.List = codes "list"
word_of kinds.Snapshot = codes "snapshot"
word_of kinds.Clone = codes "clone"
word_of kinds.Bookmark = codes "bookmark"
word_of kinds.Rollback = codes "rollback"
word_of kinds.Destroy = codes "destroy"
word_of kinds.Redact = codes "redact"
word_of kinds.Send = codes "send"
word_of kinds.Receive = codes "receive"
word_of kinds.Abort = codes "abort"
word_of kinds.Token = codes "token"
word_of kinds.Check = codes "check"
word_of kinds.Gen = codes "gen"
word_of kinds.Reclaim = codes "reclaim"
word_of kinds.Replay = codes "replay"

-- the places of names, by the kinds of names that they take
abbrev pub dataset : Names
dataset = record { datasets = true; snapshots = false; bookmarks = false }

abbrev pub snapshot : Names
snapshot = record { datasets = false; snapshots = true; bookmarks = false }

abbrev pub bookmark : Names
bookmark = record { datasets = false; snapshots = false; bookmarks = true }

abbrev pub dataset_or_snapshot : Names
dataset_or_snapshot = record { datasets = true; snapshots = true; bookmarks = false }

abbrev pub snapshot_or_bookmark : Names
snapshot_or_bookmark = record { datasets = false; snapshots = true; bookmarks = true }

abbrev pub any_name : Names
any_name = record { datasets = true; snapshots = true; bookmarks = true }

-- a number of 64 bits that isn't 0, and any number of 64 bits
abbrev pub count : WordSlot
count = Number 1 (2 ^ 64 - 1)

abbrev pub index : WordSlot
index = Number 0 (2 ^ 64 - 1)

-- the places of the named words of a line, of which so many stand; `list` may have a name, and the last snapshots of `redact` aren't here
abbrev pub front : Kind → ℕ → List WordSlot
front kinds.Dump words = []
front kinds.Create words = Image ∷ Number 128 (2 ^ 31) ∷ Number 1 (2 ^ 31 - 1) ∷ []
front kinds.Fs words = Image ∷ Name dataset ∷ []
front kinds.Volume words = Image ∷ Name dataset ∷ []
front kinds.Object words = Image ∷ Name dataset ∷ count ∷ Number 1 (2 ^ 32 - 1) ∷ BlockSize ∷ Number 0 (2 ^ 32 - 1) ∷ Bonus ∷ Spill ∷ []
front kinds.Write words = Image ∷ Name dataset ∷ count ∷ index ∷ HexBytes largest_write ∷ []
front kinds.Punch words = Image ∷ Name dataset ∷ count ∷ index ∷ count ∷ []
front kinds.Free words = Image ∷ Name dataset ∷ count ∷ count ∷ []
front kinds.Read words = Image ∷ Name dataset_or_snapshot ∷ count ∷ index ∷ []
front kinds.List words = if nat_lt words 2 then Image ∷ [] else Image ∷ Name dataset_or_snapshot ∷ []
front kinds.Snapshot words = Image ∷ Name snapshot ∷ []
front kinds.Clone words = Image ∷ Name snapshot ∷ Name dataset ∷ []
front kinds.Bookmark words = Image ∷ Name snapshot ∷ Name bookmark ∷ []
front kinds.Rollback words = Image ∷ Name snapshot ∷ []
front kinds.Destroy words = Image ∷ Name any_name ∷ []
front kinds.Redact words = Image ∷ Name snapshot ∷ Name bookmark ∷ []
front kinds.Send words = Image ∷ Name snapshot ∷ []
front kinds.Receive words = Image ∷ Name dataset_or_snapshot ∷ []
front kinds.Abort words = Image ∷ Name dataset ∷ []
front kinds.Token words = Image ∷ Name dataset ∷ []
front kinds.Check words = Image ∷ []
front kinds.Gen words = Image ∷ Number 1 64 ∷ []
front kinds.Reclaim words = Image ∷ []
front kinds.Replay words = Image ∷ Image ∷ []

-- how many snapshots stand at the end of `redact`: one to sixteen
abbrev pub last_snapshots : Kind → ℕ → ℕ
last_snapshots kinds.Redact words = max 1 (min 16 (words - 3))
last_snapshots kind words = 0

-- the places of the named words of a line, of which so many stand
abbrev pub named : Kind → ℕ → List WordSlot
named kind words = front kind words ++ replicate (last_snapshots kind words) (Name snapshot)

-- the word at a place, counted from 0
abbrev pub word_at : List (List ℕ) → ℕ → List ℕ
word_at words place = slice_index_or words place []

-- what the option of a line takes that a word is
abbrev pub option_of : Kind → List ℕ → Option OptionValue
option_of kinds.Rollback word = if bytes_eq word (codes "-r") then Some Nothing else None
option_of kinds.Send word = if bytes_eq word (codes "-i") then Some (NameOf snapshot_or_bookmark) else (if bytes_eq word (codes "--redact") then Some (NameOf bookmark) else None)
option_of kinds.Receive word =
    if bytes_eq word (codes "-s") then Some Nothing
    else (if bytes_eq word (codes "-F") then Some Nothing
    else (if bytes_eq word (codes "--origin") then Some (NameOf snapshot)
    else None))
option_of kind word = None

-- whether a word stands among these
abbrev pub stands_in : List (List ℕ) → List ℕ → Bool
stands_in words word = list_any (λ other. bytes_eq other word) words

-- what the option takes that a word is, unless it stands among the words before
abbrev pub new_option : Kind → List (List ℕ) → List ℕ → Option OptionValue
new_option kind before word = elim (option_of kind word) [
  | None ↦ None
  | Some taking ↦ if stands_in before word then None else Some taking
]

-- the same of the word at a place, counted from 0
abbrev pub option_at : Kind → List (List ℕ) → ℕ → Option OptionValue
option_at kind words place = if nat_lt place (length words) then new_option kind (take place words) (word_at words place) else None

-- the place of an option's value, where it takes one
abbrev pub value_of : OptionValue → Option WordSlot
value_of Nothing = None
value_of (NameOf names) = Some (Name names)

-- the places of an option: its own, and that of its value
abbrev pub option_places : OptionValue → List WordSlot
option_places Nothing = Given ∷ []
option_places (NameOf names) = Given ∷ Name names ∷ []

-- The places of the words behind those before, the first of them perhaps an option's value. Options come in any order, each once and with its value behind it; then come the named words.
abbrev pub places_behind : Kind → List (List ℕ) → Option WordSlot → List (List ℕ) → List WordSlot
places_behind kind before (Some value) [] = value ∷ named kind 0
places_behind kind before (Some value) (word ∷ words) = value ∷ places_behind kind (before ++ word ∷ []) None words
places_behind kind before None [] = named kind 0
places_behind kind before None (word ∷ words) = elim (new_option kind before word) [
  | None ↦ named kind (length (word ∷ words))
  | Some taking ↦ Given ∷ places_behind kind (before ++ word ∷ []) (value_of taking) words
]

-- `-t` directly behind `send`: a stream goes on from a token
abbrev pub goes_on : Kind → List (List ℕ) → Bool
goes_on kinds.Send words = bytes_eq (word_at words 0) (codes "-t")
goes_on kind words = false

-- the places of the words behind the first one
abbrev pub places_of : Kind → List (List ℕ) → List WordSlot
places_of kind words = if goes_on kind words then Given ∷ Token ∷ Image ∷ [] else places_behind kind [] None words
