-- How numbers and bytes are spelled, each in one word.
use Rattle.std.specs.Prelude.{◌≡◌, ℕ, ◌/◌, ◌%◌, ◌<◌, ◌≤◌, true, List, ◌∷◌, ◌++◌, length, slice_index, decimal}
use Rattle.std.specs.List.{AllPass}
use Rattle.hex.specs.Hex.{is_hex_digit}
use Rattle.zst_model.specs.states.State.{is_block_size, is_spill_size}

-- a word that begins with `-`, as options do
abbrev pub IsOption : List ℕ → Type 0
IsOption word = slice_index word 0 ≡ 45

-- a text that isn't empty, and is no option
abbrev pub IsText : List ℕ → Type 0
IsText word = (0 < length word) × ¬ (IsOption word)

-- bytes in hexadecimal, two digits a byte: so many at least and at most
pub record IsHex (least most : ℕ) (word : List ℕ) : Type 0 where
  pub even : length word % 2 ≡ 0
  pub enough : least ≤ length word / 2
  pub room : length word / 2 ≤ most
  pub digits : AllPass is_hex_digit word

-- a number in decimal, from the first to the second
pub record IsNumber (low high : ℕ) (word : List ℕ) : Type 0 where
  pub number : ℕ
  pub spelled : word ≡ decimal number
  pub least : low ≤ number
  pub most : number ≤ high

-- a block size in decimal
pub record IsSize (word : List ℕ) : Type 0 where
  pub size : ℕ
  pub spelled : word ≡ decimal size
  pub block : is_block_size size ≡ true

-- a spill block: its size, `:`, and its first bytes in hexadecimal; zeros follow
pub record IsSpill (word : List ℕ) : Type 0 where
  pub size : ℕ
  pub bytes : List ℕ
  pub spelled : word ≡ decimal size ++ 58 ∷ bytes
  pub block : is_spill_size size ≡ true
  pub digits : IsHex 0 size bytes
