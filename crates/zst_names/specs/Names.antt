-- The names of datasets, snapshots and bookmarks, and where a text stops being one.
use Rattle.std.specs.Prelude.{◌≡◌, ◌≢◌, ℕ, ◌+◌, ◌<◌, ◌≤◌, Bool, true, ◌||◌, ◌==◌, ◌⊎◌, Option, Some, None, List, ◌++◌, length, take, slice_index, All}
use Rattle.std.specs.Char.{is_ascii_alphanumeric}
use Rattle.std.specs.List.{list_all, slice_split, before_first, after_first}

-- a letter, a digit, `_`, `.`, `:` or `-`
unfoldable pub is_component_byte : ℕ → Bool
is_component_byte b = is_ascii_alphanumeric b || (b == 95 || (b == 46 || (b == 58 || b == 45)))

-- 1 to 64 of these bytes, the first of them no `-`
pub record IsComponent (text : List ℕ) : Type 0 where
  pub some : 0 < length text
  pub short : length text ≤ 64
  pub bytes : list_all is_component_byte text ≡ true
  pub first : slice_index text 0 ≢ 45

-- what stands between the `/`s of a text: one part more than it has `/`s
abbrev pub parts : List ℕ → List (List ℕ)
parts text = slice_split (λ b. b == 47) text

-- 1 to 8 components, joined by `/`, at most 190 bytes
pub record IsDataset (text : List ℕ) : Type 0 where
  pub components : All IsComponent (parts text)
  pub few : length (parts text) ≤ 8
  pub short : length text ≤ 190

-- what stands before the first mark of a text (all of it where there is none), and what stands behind it
abbrev pub dataset_of : ℕ → List ℕ → List ℕ
dataset_of mark text = before_first (λ b. b == mark) text

abbrev pub component_of : ℕ → List ℕ → List ℕ
component_of mark text = after_first (λ b. b == mark) text

-- a dataset name, and where the kind has a mark also that and a component
abbrev pub IsName : Option ℕ → List ℕ → Type 0
IsName None text = IsDataset text
IsName (Some mark) text = IsDataset (dataset_of mark text) × IsComponent (component_of mark text)

-- a dataset name, `@` and a component
abbrev pub IsSnapshot : List ℕ → Type 0
IsSnapshot text = IsName (Some 64) text

-- a dataset name, `#` and a component
abbrev pub IsBookmark : List ℕ → Type 0
IsBookmark text = IsName (Some 35) text

-- some text makes a name of it
abbrev pub CanGoOn : (List ℕ → Type 0) → List ℕ → Type 0
CanGoOn IsOne front = (rest : List ℕ) × IsOne (front ++ rest)

-- The text before the place can go on to a name. With the byte there it can't, or the text ends there and is none.
pub record StopsAt (IsOne : List ℕ → Type 0) (text : List ℕ) (place : ℕ) : Type 0 where
  pub goes : CanGoOn IsOne (take place text)
  pub stops : ((place < length text) × (CanGoOn IsOne (take (place + 1) text) → ⊥)) ⊎ ((place ≡ length text) × (IsOne text → ⊥))
