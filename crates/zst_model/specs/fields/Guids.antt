-- Sets of guids.
use Rattle.std.specs.Prelude.{ℕ, ◌≡◌, ◌<◌, ◌≤◌, ◌^◌, ◌&&◌, Bool, true, List, [], ◌∷◌, length, nat_lt, All}

-- each number is greater than the one before it
abbrev pub is_rising : List ℕ → Bool
is_rising [] = true
is_rising (guid ∷ []) = true
is_rising (guid ∷ next ∷ rest) = nat_lt guid next && is_rising (next ∷ rest)

-- at most sixteen guids of 64 bits that rise
pub record IsGuidSet (guids : List ℕ) : Type 0 where
  pub few : length guids ≤ 16
  pub rising : is_rising guids ≡ true
  pub fit : All (λ guid. guid < 2 ^ 64) guids
