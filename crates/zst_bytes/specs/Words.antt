-- Words, texts and lists of numbers, spelled one after the other.
use Rattle.std.specs.Prelude.{ℕ, ◌+◌, ◌-◌, ◌*◌, ◌/◌, List, ◌++◌, length, flat_map}
use Rattle.zst_bytes.specs.Bytes.{number_bytes}
use Rattle.zst_bytes.specs.Fields.{zeros}

-- a number in 8 bytes
abbrev pub word : ℕ → List ℕ
word n = number_bytes 8 n

-- how many zeros fill a count up to a multiple of a size
abbrev pub filling : ℕ → ℕ → ℕ
filling size count = (count + (size - 1)) / size * size - count

-- how many zeros fill a count up to a multiple of 8
abbrev pub padding : ℕ → ℕ
padding count = filling 8 count

-- a text: its length, its bytes, and zeros up to a multiple of 8
unfoldable pub text_bytes : List ℕ → List ℕ
text_bytes text = word (length text) ++ (text ++ zeros (padding (length text)))

-- numbers: their count, and each
unfoldable pub words_bytes : List ℕ → List ℕ
words_bytes numbers = word (length numbers) ++ flat_map word numbers
