-- The sectors of a pool that are free: those of some extents, and all from an end on.
use Rattle.std.specs.Prelude.{ℕ, ◌+◌, ◌-◌, ◌<◌, ◌≤◌, ◌⊎◌, max, List, [], ◌∷◌}
use Rattle.zst_space.specs.declared.space.Extent.{Extent}

pub record FreeSectors : Type 0 where
  -- the sector from which on all are free
  pub end : ℕ
  -- how many sectors the pool has
  pub sectors : ℕ
  -- the free extents below the end
  pub free : List Extent

-- the sector is one of so many from the first on
abbrev pub IsWithin : ℕ → ℕ → ℕ → Type 0
IsWithin first count sector = (first ≤ sector) × (sector < first + count)

-- an extent has this sector
abbrev pub IsInSome : List Extent → ℕ → Type 0
IsInSome [] sector = ⊥
IsInSome (extent ∷ extents) sector = IsWithin extent.first extent.count sector ⊎ IsInSome extents sector

-- the sector is free
abbrev pub IsFree : FreeSectors → ℕ → Type 0
IsFree space sector = IsInSome space.free sector ⊎ (space.end ≤ sector)

-- from this sector on the extents rise, have no sector in common, and stand below the end
abbrev pub Rise : ℕ → List Extent → ℕ → Type 0
Rise from [] end = from ≤ end
Rise from (extent ∷ extents) end = (from ≤ extent.first) × Rise (extent.first + extent.count) extents end

-- from this sector on there may be free ones, by extents that rise below an end
pub record IsSpaceFrom (from : ℕ) (space : FreeSectors) : Type 0 where
  pub end : space.end ≤ space.sectors
  pub extents : Rise from space.free space.end

abbrev pub IsSpace : FreeSectors → Type 0
IsSpace space = IsSpaceFrom 0 space

-- the greatest count of the extents, or this one
abbrev pub greatest : List Extent → ℕ → ℕ
greatest [] least = least
greatest (extent ∷ extents) least = max extent.count (greatest extents least)

-- how many sectors in a row can be taken
abbrev pub largest_of : FreeSectors → ℕ
largest_of space = greatest space.free (space.sectors - space.end)

-- how many sectors the extents have
abbrev pub total : List Extent → ℕ
total [] = 0
total (extent ∷ extents) = extent.count + total extents

-- how many sectors are left in all
abbrev pub room : FreeSectors → ℕ
room space = total space.free + (space.sectors - space.end)
