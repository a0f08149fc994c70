-- Words in pairs, as a number of 64 bits holds two.
use Rattle.std.specs.Prelude.{ℕ, ◌+◌, List, [], ◌∷◌}
use Rattle.zst_fletcher.specs.declared.lanes.Pairs.{Pairs}
use Rattle.zst_fletcher.specs.Lanes.{lanes_of}

-- the sum of the two words of each pair
abbrev pub totals_of : List ℕ → List ℕ
totals_of (first ∷ second ∷ later) = (first + second) ∷ totals_of later
totals_of words = []

-- the second word of each pair
abbrev pub seconds_of : List ℕ → List ℕ
seconds_of (first ∷ second ∷ later) = second ∷ seconds_of later
seconds_of words = []

-- what the lanes of both hold after these words
abbrev pub pairs_of : List ℕ → Pairs
pairs_of words = record { totals = lanes_of (totals_of words); seconds = lanes_of (seconds_of words) }
