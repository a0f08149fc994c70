-- The numbers in texts: guids, and sums.
use Rattle.std.specs.Prelude.{ℕ, List, [], ◌∷◌, codes, decimal, slice_index}
use Rattle.std.specs.Int.{w64, to_be_bytes}
use Rattle.std.specs.List.{concat}
use Rattle.hex.specs.Hex.{encode_lower}

-- a guid: sixteen hexadecimal digits, the most significant first
unfoldable pub guid_text : ℕ → List ℕ
guid_text guid = encode_lower (to_be_bytes w64 guid)

-- four sums, with blanks between them
unfoldable pub sums_text : List ℕ → List ℕ
sums_text sums =
    concat (decimal (slice_index sums 0) ∷ codes " " ∷ decimal (slice_index sums 1) ∷ codes " "
    ∷ decimal (slice_index sums 2) ∷ codes " " ∷ decimal (slice_index sums 3) ∷ [])
