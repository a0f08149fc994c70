-- Four lanes that take turns at the words: lane j has the words j, j + 4, j + 8 and so on.
use Rattle.std.specs.Prelude.{ℕ, zero, suc, ◌+◌, ◌*◌, ◌%◌, ◌^◌, List, [], ◌∷◌, length, slice_index}
use Rattle.zst_fletcher.specs.declared.lanes.Lanes.{Lanes}

-- the words of lane j, of words in whole rows of four
abbrev pub lane : ℕ → List ℕ → List ℕ
lane j (w ∷ x ∷ y ∷ z ∷ later) = slice_index (w ∷ x ∷ y ∷ z ∷ []) j ∷ lane j later
lane j words = []

-- how many pairs there are of n things
abbrev pub pairs : ℕ → ℕ
pairs zero = 0
pairs (suc n) = pairs n + n

-- how many triples there are of n things
abbrev pub triples : ℕ → ℕ
triples zero = 0
triples (suc n) = triples n + pairs n

-- each word times the weight of the number of words after it
abbrev pub weighted_by_later : (ℕ → ℕ) → List ℕ → ℕ
weighted_by_later weight [] = 0
weighted_by_later weight (word ∷ later) = weight (length later) * word + weighted_by_later weight later

-- such a sum of each lane, modulo 2 ^ 64
abbrev pub lane_sums : (ℕ → ℕ) → List ℕ → List ℕ
lane_sums weight words =
    weighted_by_later weight (lane 0 words) % 2 ^ 64 ∷ weighted_by_later weight (lane 1 words) % 2 ^ 64
    ∷ weighted_by_later weight (lane 2 words) % 2 ^ 64 ∷ weighted_by_later weight (lane 3 words) % 2 ^ 64 ∷ []

-- what the lanes hold after these words
unfoldable pub lanes_of : List ℕ → Lanes
lanes_of words = record {
  a = lane_sums (λ n. 1) words;
  b = lane_sums (λ n. n) words;
  c = lane_sums pairs words;
  d = lane_sums triples words;
}
